-- Parties of one multi handle.
use Rattle.std.proofs.Common.{◌≡◌, List, [], ◌∷◌, ◌++◌}
use Rattle.std.specs.List.{All}
use Rattle.std.proofs.lemmas.List.Elements.{All-push, All-same}
use Rattle.mx_multi.specs.Seats.{MultiView}
use Rattle.mx_multi_tests_base.specs.declared.party.Party.{Party}
use Rattle.mx_multi_tests_base.specs.declared.sample.End.{End}
use Rattle.mx_multi_tests_base.specs.declared.sample.Job.{Job}

-- a party more, as `push` leaves the list
pub more_seated : (m : MultiView Job End) (p : Party) (ps qs : List Party) → qs ≡ ps ++ p ∷ [] → p.one.client.of ≡ m → All (λ (x : Party). x.one.client.of ≡ m) ps → All (λ (x : Party). x.one.client.of ≡ m) qs
more_seated m p ps qs is one all = All-same (λ (x : Party). x.one.client.of ≡ m) qs (ps ++ p ∷ []) is (All-push (λ (x : Party). x.one.client.of ≡ m) ps p all one)
