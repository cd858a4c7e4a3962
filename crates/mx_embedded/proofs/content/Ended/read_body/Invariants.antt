use Rattle.std.proofs.Common.{◌≡◌, length}
use Rattle.mx_embedded.proofs.Reading.{IsRead}
use Rattle.mx_embedded.proofs.content.Ended.read_body.Given as goal

-- the parts before this one were read
abbrev pub invariant-loop : goal.invariant-loop
invariant-loop l =
    (l.self-inside.outcome ≡ l.fn.self) × (l.counter ≡ l.self-inside.part) × (l.end ≡ length l.self-inside.outcome.parts)
    × IsRead l.self-inside.outcome l.from l.fn.out l.out l.self-inside.part l.self-inside.begins l.skip l.done
