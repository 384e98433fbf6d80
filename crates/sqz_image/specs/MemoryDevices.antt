-- How a source and a sink in memory are set up.
use Rattle.std.specs.Prelude.{ℕ, ◌-◌, Option, vec_len}
use Rattle.sqz_image.specs.declared.memory_source.MemorySource.{MemorySource}
use Rattle.sqz_image.specs.declared.memory_sink.MemorySink.{MemorySink}

-- the greatest number of bytes that a read gives
abbrev pub piece_size : MemorySource → ℕ
piece_size source = source.piece

-- the number of the read that fails, counted from 0
abbrev pub failing_read : MemorySource → Option ℕ
failing_read source = source.fail

-- the number of bytes that the sink still takes
abbrev pub room_left : MemorySink → ℕ
room_left sink = sink.room - vec_len sink.taken

-- the number of writes and flushes of the sink
abbrev pub calls_of : MemorySink → ℕ
calls_of sink = sink.calls

-- the number of the write or flush that fails, counted from 0
abbrev pub failing_call : MemorySink → Option ℕ
failing_call sink = sink.fail
