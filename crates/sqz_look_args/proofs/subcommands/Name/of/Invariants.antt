use Rattle.std.proofs.Common.{◌≡◌, drop}
use Rattle.std.specs.Prelude.{bytes_eq, find, map}
use Rattle.sqz_look_args.specs.CommandLine.{listed_of, subcommands}
use Rattle.sqz_look_args.proofs.subcommands.Name.of.Given as goal

-- the subcommand that the word stands for is among those that are left
abbrev pub invariant-loop-subcommand : goal.invariant-loop-subcommand
invariant-loop-subcommand l =
    find (λ s. bytes_eq s.word l.word) (map listed_of (drop l.subcommand-index l.subcommand-items))
    ≡ find (λ s. bytes_eq s.word l.word) subcommands
