-- What the bytes of an instruction say: the bytecode set of the Blue Book as Squeak extends it.
use Rattle.std.specs.Prelude.{ℕ, ◌+◌, ◌-◌, ◌*◌, ◌/◌, ◌%◌, ◌==◌, nat_lt, nat_le, true, false, ◌&&◌, if◌then◌else◌}
use Rattle.std.specs.Prelude.{Option, Some, None, option_map, unwrap_or}
use Rattle.sqz_code.specs.declared.operation.Operation.{Operation}
use Rattle.sqz_code.specs.declared.operation.Operation.TheVariants.{Push, Store, PopInto, Return, Send, SendSuper, SendSpecial}
use Rattle.sqz_code.specs.declared.operation.Operation.TheVariants.{Pop, Duplicate, Jump, JumpIf, Unknown}
use Rattle.sqz_code.specs.declared.operation.Source.{Source}
use Rattle.sqz_code.specs.declared.operation.Source.TheVariants as source
use Rattle.sqz_code.specs.declared.operation.Target.{Target}
use Rattle.sqz_code.specs.declared.operation.Target.TheVariants as target
use Rattle.sqz_code.specs.declared.operation.Returned.TheVariants as returned
use Rattle.sqz_code.specs.declared.operation.Distance.TheVariants.{Ahead, Back}

-- the number of bytes of an instruction, by its first byte
abbrev pub length_by : ℕ → ℕ
length_by code =
    if code == 132 then 3
    else (if nat_le 128 code && nat_lt code 135 then 2
    else (if nat_le 160 code && nat_lt code 176 then 2
    else 1))

-- ---- by the kind in the high bits of the second byte

-- what is pushed; the kind has two bits, and the index is in the other six
abbrev pub push_by : ℕ → ℕ → Source
push_by kind index =
    if kind == 0 then source.InstanceVariable index
    else (if kind == 1 then source.Temporary index
    else (if kind == 2 then source.Literal index
    else source.Variable index))

-- where is stored, likewise; a literal is not stored into
abbrev pub target_by : ℕ → ℕ → Option Target
target_by kind index =
    if kind == 0 then Some (target.InstanceVariable index)
    else (if kind == 1 then Some (target.Temporary index)
    else (if kind == 2 then None
    else Some (target.Variable index)))

-- what an instruction of three bytes does; the kind has three bits, the number of arguments is in
-- the other five, and the index is the third byte
abbrev pub extended_by : ℕ → ℕ → ℕ → Operation
extended_by kind arguments index =
    if kind == 0 then Send index arguments
    else (if kind == 1 then SendSuper index arguments
    else (if kind == 2 then Push (source.InstanceVariable index)
    else (if kind == 3 then Push (source.Literal index)
    else (if kind == 4 then Push (source.Variable index)
    else (if kind == 5 then Store (target.InstanceVariable index)
    else (if kind == 6 then PopInto (target.InstanceVariable index)
    else Store (target.Variable index)))))))

-- ---- the table

-- what an instruction does, by its first byte and the two after it, of which it has as many as its
-- length says. Each row takes the codes that the rows above it leave
abbrev pub operation_by : ℕ → ℕ → ℕ → Operation
operation_by code second third =
    if nat_lt code 16 then Push (source.InstanceVariable code)
    else (if nat_lt code 32 then Push (source.Temporary (code - 16))
    else (if nat_lt code 64 then Push (source.Literal (code - 32))
    else (if nat_lt code 96 then Push (source.Variable (code - 64))
    else (if nat_lt code 104 then PopInto (target.InstanceVariable (code - 96))
    else (if nat_lt code 112 then PopInto (target.Temporary (code - 104))
    else (if code == 112 then Push source.Receiver
    else (if code == 113 then Push source.True
    else (if code == 114 then Push source.False
    else (if code == 115 then Push source.Nil
    else (if code == 116 then Push source.MinusOne
    else (if code == 117 then Push source.Zero
    else (if code == 118 then Push source.One
    else (if code == 119 then Push source.Two
    else (if code == 120 then Return returned.Receiver
    else (if code == 121 then Return returned.True
    else (if code == 122 then Return returned.False
    else (if code == 123 then Return returned.Nil
    else (if code == 124 then Return returned.Top
    else (if code == 125 then Return returned.BlockTop
    else (if nat_lt code 128 then Unknown
    else (if code == 128 then Push (push_by (second / 64) (second % 64))
    else (if code == 129 then unwrap_or (option_map Store (target_by (second / 64) (second % 64))) Unknown
    else (if code == 130 then unwrap_or (option_map PopInto (target_by (second / 64) (second % 64))) Unknown
    else (if code == 131 then Send (second % 32) (second / 32)
    else (if code == 132 then extended_by (second / 32) (second % 32) third
    else (if code == 133 then SendSuper (second % 32) (second / 32)
    else (if code == 134 then Send (second % 64) (second / 64)
    else (if code == 135 then Pop
    else (if code == 136 then Duplicate
    else (if code == 137 then Push source.ThisContext
    else (if nat_lt code 144 then Unknown
    else (if nat_lt code 152 then Jump (Ahead (code - 143))
    else (if nat_lt code 160 then JumpIf false (code - 151)
    else (if nat_lt code 164 then Jump (Back ((164 - code) * 256 - second))
    else (if nat_lt code 168 then Jump (Ahead ((code - 164) * 256 + second))
    else (if nat_lt code 172 then JumpIf true ((code - 168) * 256 + second)
    else (if nat_lt code 176 then JumpIf false ((code - 172) * 256 + second)
    else (if nat_lt code 208 then SendSpecial (code - 176)
    else (if nat_lt code 224 then Send (code - 208) 0
    else (if nat_lt code 240 then Send (code - 224) 1
    else Send (code - 240) 2))))))))))))))))))))))))))))))))))))))))
