-- How URLs are fetched.
use Rattle.std.specs.Prelude.{ℕ, nat_le, ◌==◌, ◌&&◌, Bool, if◌then◌else◌}
use Rattle.mx_run_io.specs.declared.options.Options.{Options}

-- rule get-options: `get` takes 1 to 16 workers, 1 to 256 transfers at a time, and 0 to 64 idle connections a worker.
abbrev pub are_within : Options → Bool
are_within o = nat_le 1 o.workers && nat_le o.workers 16 && nat_le 1 o.at_once && nat_le o.at_once 256 && nat_le o.max_connects 64

-- rule get-width: `get` adds at most so many transfers at a time, 1 to 256: one where it has one worker, and one more for each message that
-- it reads.
--
-- how many transfers are added at a time: with one worker one after another
abbrev pub width : Options → ℕ
width o = if o.workers == 1 then 1 else o.at_once
