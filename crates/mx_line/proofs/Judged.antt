-- What a judgement of which more is to come says.
use Rattle.std.proofs.Common.{◌≡◌, ℕ, inl, inr, Bool, false, List, [], ap, subst}
use Rattle.std.specs.Prelude.{Option, Some, None}
use Rattle.mx_types.specs.declared.method.Method.{Method}
use Rattle.mx_body.specs.Decision.{HasFinalHead}
use Rattle.mx_body.specs.declared.decoder.Stand.{Stand}
use Rattle.mx_body.specs.declared.decoder.Stand.TheVariants as stand
use Rattle.mx_body.proofs.EmptyLemmas.{no_final}
use Rattle.mx_reader.specs.Judgements.{Judgement, Judges, IsUndecidedBy, StandsSo}
use Rattle.mx_reader.specs.Readers.{ReaderValue, IsReader}
use Rattle.mx_reader.proofs.HeldLemmas.{more_is_undecided}

no_content : (limit : ℕ) (m : Method) (input : List ℕ) (ended : Bool) (j : Judgement) (s : Stand) → s ≡ stand.More → input ≡ [] → StandsSo limit m input ended j s → j.content ≡ []
no_content limit m input ended j stand.More e none x = elim x.0.handed [
  | inl h ↦ absurd (no_final (subst HasFinalHead none (h.2.interim, h.2.head, h.1, h.2.stands)))
  | inr h ↦ h.1
]
no_content limit m input ended j stand.Complete e none x = let both : stand.Complete ≡ stand.More = e in absurd (cc)
no_content limit m input ended j (stand.Fault c) e none x = let both : stand.Fault c ≡ stand.More = e in absurd (cc)

-- no content is among no bytes
pub none_of_none : (limit : Option ℕ) (m : Method) (input : List ℕ) (ended : Bool) (j : Judgement) → Judges limit m input ended j → j.stand ≡ stand.More → input ≡ [] → j.content ≡ []
none_of_none None m input ended j is e none = ap (λ (k : Judgement). k.content) is.2
none_of_none (Some limit) m input ended j is e none = no_content limit m input ended j j.stand e none is.1

-- none is handed on of a response that is held
pub none_held : (limit : Option ℕ) (m : Method) (input : List ℕ) (ended : Bool) (j : Judgement) → Judges limit m input ended j → limit ≡ None → j.content ≡ []
none_held None m input ended j is e = ap (λ (k : Judgement). k.content) is.2
none_held (Some limit) m input ended j is e = cc

-- nothing is decided
pub undecided_by : (limit : Option ℕ) (m : Method) (input : List ℕ) (j : Judgement) → Judges limit m input false j → j.stand ≡ stand.More → IsUndecidedBy limit m input
undecided_by limit m input j is e = (more_is_undecided limit m input false j is e).1

-- a judgement on equal things
pub judged_past : (r : ReaderValue) (m : Method) (x : List ℕ) (e : Bool) → IsReader r → r.method ≡ m → r.wire ≡ x → r.ended ≡ e → Judges r.limit m x e r.judgement
judged_past r m x e h em ex ee =
    subst (λ (b : Bool). Judges r.limit m x b r.judgement) ee
    (subst (λ (l : List ℕ). Judges r.limit m l r.ended r.judgement) ex
    (subst (λ (k : Method). Judges r.limit k r.wire r.ended r.judgement) em h.judged))
