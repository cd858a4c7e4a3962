-- A whole response has all its content.
use Rattle.std.proofs.Common.{◌≡◌, ℕ, ◌+◌, Bool, List, [], ◌++◌, length, take, sym, ap, subst, ◌∙◌, arith, length-append}
use Rattle.std.proofs.lemmas.List.{append-nil}
use Rattle.std.proofs.Math.Seq.{take-append_seam}
use Rattle.std.specs.Prelude.{Some, None}
use Rattle.mx_types.specs.declared.method.Method.{Method}
use Rattle.mx_body.specs.Decision.{IsVerdict}
use Rattle.mx_body.specs.Parts.{AreOrdered, joined}
use Rattle.mx_body.specs.declared.decoder.Stand.{Stand}
use Rattle.mx_body.specs.declared.decoder.Stand.TheVariants as stand
use Rattle.mx_body.specs.declared.part.Part.{Part}
use Rattle.mx_body.specs.declared.verdict.Verdict.{Verdict}
use Rattle.mx_body.specs.declared.verdict.Verdict.TheVariants as verdict
use Rattle.mx_body.proofs.LawLemmas.{complete_content}
use Rattle.mx_flow.specs.Responses.{IsResponseOf}
use Rattle.mx_reader.specs.Judgements.{Judgement, judgement_of, StandsSo, HasWhole}
use Rattle.mx_reader.specs.Laws.{HasAll, WholeHasAll}

held_has_all : (m : Method) (input : List ℕ) (ended : Bool) (v : Verdict) → IsVerdict m input ended v → (judgement_of v).stand ≡ stand.Complete → HasAll None m input ended (judgement_of v)
held_has_all m input ended (verdict.Complete status len parts keep) is e =
    let c = complete_content m input ended (verdict.Complete status len parts keep) is in
    record {
      within = c.1;
      ordered = c.0;
      response = (c.2.0, c.2.1, sym c.2.3 ∙ sym (append-nil (joined input parts.items)));
    }
held_has_all m input ended verdict.More is e = let both : stand.More ≡ stand.Complete = e in absurd (cc)
held_has_all m input ended (verdict.Fault c) is e = let both : stand.Fault c ≡ stand.Complete = e in absurd (cc)

flowing_has_all : (limit : ℕ) (m : Method) (input : List ℕ) (ended : Bool) (j : Judgement) → j.parts ≡ [] → HasWhole limit m input ended j → HasAll (Some limit) m input ended j
flowing_has_all limit m input ended j none w =
    let b = w.begins in
    let len : j.len ≡ length b.bytes = omega (arith, w.len, ap length b.whole, length-append b.bytes w.left) in
    let front : b.bytes ≡ take j.len input = sym (ap (take j.len) b.whole ∙ ap (λ (n : ℕ). take n (b.bytes ++ w.left)) len ∙ take-append_seam b.bytes w.left) in
    record {
      within = omega (arith, w.len);
      ordered = subst (AreOrdered 0 j.len) (sym none) (omega arith);
      response = subst (λ (t : List ℕ). IsResponseOf limit m t ended (joined input j.parts ++ j.content)) front
          (subst (λ (ps : List Part). IsResponseOf limit m b.bytes ended (joined input ps ++ j.content)) (sym none) b.response);
    }

by_stand : (limit : ℕ) (m : Method) (input : List ℕ) (ended : Bool) (j : Judgement) (s : Stand) → s ≡ stand.Complete → StandsSo limit m input ended j s → HasWhole limit m input ended j
by_stand limit m input ended j stand.Complete e x = x
by_stand limit m input ended j stand.More e x = let both : stand.More ≡ stand.Complete = e in absurd (cc)
by_stand limit m input ended j (stand.Fault c) e x = let both : stand.Fault c ≡ stand.Complete = e in absurd (cc)

pub whole_has_all : WholeHasAll
whole_has_all None m input ended j is e =
    subst (HasAll None m input ended) (sym is.2) (held_has_all m input ended is.0 is.1 (sym (ap (λ (k : Judgement). k.stand) is.2) ∙ e))
whole_has_all (Some limit) m input ended j is e = flowing_has_all limit m input ended j is.0 (by_stand limit m input ended j j.stand e is.1)
