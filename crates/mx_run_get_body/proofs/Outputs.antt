-- Bytes that are written one after another, as far as it is known what a writer holds.
use Rattle.std.proofs.Common.{◌∙◌, sym, ap, List, ℕ, [], ◌++◌, append-nil, append_assoc}
use Rattle.std.specs.Prelude.{Option, Some, None}
use Rattle.std.specs.Io.KnownBytes.{Appends, Keeps}

pub appends_none : (a : Option (List ℕ)) → Appends a a []
appends_none None = tt
appends_none (Some first) = sym (append-nil first)

pub appends_more : (a b c : Option (List ℕ)) (xs ys : List ℕ) → Appends a b xs → Appends b c ys → Appends a c (xs ++ ys)
appends_more None b c xs ys one two = tt
appends_more (Some first) None c xs ys one two = absurd one
appends_more (Some first) (Some next) None xs ys one two = absurd two
appends_more (Some first) (Some next) (Some last) xs ys one two = two ∙ ap (λ (l : List ℕ). l ++ ys) one ∙ append_assoc first xs ys

pub appends_kept : (a b c : Option (List ℕ)) (xs : List ℕ) → Appends a b xs → Keeps b c → Appends a c xs
appends_kept None b c xs one two = tt
appends_kept (Some first) None c xs one two = absurd one
appends_kept (Some first) (Some next) None xs one two = absurd two
appends_kept (Some first) (Some next) (Some last) xs one two = two ∙ one
