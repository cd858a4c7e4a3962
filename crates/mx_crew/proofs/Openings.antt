-- What is opened in a run is what the gate within opens.
use Rattle.std.proofs.Common.{◌≡◌, Bool, true, false, List, [], ◌∷◌, ◌++◌, refl, sym, ap, ◌∙◌, append_assoc, append-nil}
use Rattle.std.proofs.lemmas.List.Elements.{filter-append}
use Rattle.mx_gate.specs.Said.{Said}
use Rattle.mx_crew.specs.Gates.{is_opening, openings, OpensWithin, OpensOnce}

module _ {G : Type 0} (said : G → List Said) (before : List Said) where
  pub begins_within : (gate : G) → before ≡ said gate → OpensWithin said before gate []
  begins_within gate same = record { since = []; begins = sym same ∙ sym (append-nil before); opened_is = refl }

  -- what both say more, of which the openings are the same
  pub says_within : (old new : G) (run now more other : List Said) → OpensWithin said before old run → said new ≡ said old ++ more → now ≡ run ++ other → openings other ≡ openings more
      → OpensWithin said before new now
  says_within old new run now more other w noted told same = record {
    since = w.since ++ more;
    begins = noted ∙ ap (λ (l : List Said). l ++ more) w.begins ∙ append_assoc before w.since more;
    opened_is = ap openings told ∙ filter-append is_opening run other ∙ ap (λ (l : List Said). l ++ openings other) w.opened_is ∙ ap (λ (l : List Said). openings w.since ++ l) same
        ∙ sym (filter-append is_opening w.since more);
  }

  -- what the gate in the run says alone, which opens nothing
  pub alone_within : (gate : G) (run now other : List Said) → OpensWithin said before gate run → now ≡ run ++ other → openings other ≡ [] → OpensWithin said before gate now
  alone_within gate run now other w told none = says_within gate gate run now [] other w (sym (append-nil (said gate))) told none

  -- a link is opened, or can't be
  pub opens_within : (old new : G) (run now : List Said) (one : Said) → OpensWithin said before old run → OpensOnce (said old) (said new) one → now ≡ run ++ one ∷ [] → OpensWithin said before new now
  opens_within old new run now one w o told =
      says_within old new run now (one ∷ o.rest) (one ∷ []) w o.noted told
      (sym (filter-append is_opening (one ∷ []) o.rest ∙ ap (λ (l : List Said). openings (one ∷ []) ++ l) o.none ∙ append-nil (openings (one ∷ []))))
