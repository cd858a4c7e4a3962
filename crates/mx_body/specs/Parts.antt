-- Where the data of a body are.
use Rattle.std.specs.Prelude.{ℕ, ◌<◌, ◌≤◌, List, [], ◌∷◌, flat_map, slice_range}
use Rattle.mx_body.specs.declared.part.Part.{Part}

-- parts that are in a text of so many bytes at an offset, none empty, each before the next
abbrev pub AreOrdered : ℕ → ℕ → List Part → Type 0
AreOrdered from to [] = from ≤ to
AreOrdered from to (p ∷ parts) = (from ≤ p.start) × (p.start < p.end) × AreOrdered p.end to parts

-- the bytes of a text at the parts, joined
abbrev pub joined : List ℕ → List Part → List ℕ
joined text parts = flat_map (λ p. slice_range text p.start p.end) parts
