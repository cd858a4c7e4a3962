-- What is left of the entries that a scripted link keeps for reads.
use Rattle.std.specs.Prelude.{ℕ, ◌<◌, List, [], ◌∷◌, drop, length, map}
use Rattle.std.specs.List.{AllByRecursion}
use Rattle.mx_link.specs.declared.answers.Answer.{Answer}
use Rattle.mx_link.specs.declared.answers.Answer.TheVariants as answers
use Rattle.mx_link.specs.declared.scripted.Planned.{Planned}
use Rattle.mx_link.specs.declared.scripted.Planned.TheVariants as planned

-- the answer that an entry plans
abbrev pub answer_of : Planned → Answer
answer_of (planned.Bytes bytes) = answers.Gave bytes.items
answer_of planned.WouldBlock = answers.ReadBlocked
answer_of planned.End = answers.ReadEnded
answer_of planned.Fault = answers.ReadFailed

-- what entries plan, where the first has given so many of its bytes
abbrev pub left_of : List Planned → ℕ → List Answer
left_of [] given = []
left_of (planned.Bytes bytes ∷ rest) given = answers.Gave (drop given bytes.items) ∷ map answer_of rest
left_of (entry ∷ rest) given = map answer_of (entry ∷ rest)

-- an answer that gives bytes gives some
abbrev pub GivesSome : Answer → Type 0
GivesSome (answers.Gave bytes) = 0 < length bytes
GivesSome _ = Unit {0}

abbrev pub AllGiveSome : List Answer → Type 0
AllGiveSome plan = AllByRecursion GivesSome plan
