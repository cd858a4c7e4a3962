-- Where the bytes of a response have led.
use Rattle.std.proofs.Common.{◌≡◌, ◌≢◌, ℕ, ◌+◌, ◌-◌, ◌≤◌, ◌⊎◌, inl, inr, true, false, List, [], ◌∷◌, ◌++◌, length, take, drop, refl, sym, ap, subst, ◌∙◌, arith, append_assoc, length-append, Ok, Err}
use Rattle.std.specs.Prelude.{Option}
use Rattle.std.proofs.lemmas.Bool.{cases_lt}
use Rattle.std.proofs.lemmas.List.{append-nil, nil_from_length, take-append-drop, length-drop, length-take-le, take_rest}
use Rattle.std.proofs.Math.Seq.{take-nil, take-add}
use Rattle.httparse.specs.Grammar.{print_response}
use Rattle.mx_types.specs.declared.code.Code.{Code}
use Rattle.mx_types.specs.declared.code.Code.TheVariants as code
use Rattle.mx_types.specs.declared.method.Method.{Method}
use Rattle.mx_head.specs.declared.types.Framing.{Framing}
use Rattle.mx_head.specs.declared.types.Framing.TheVariants.{Empty, Counted, Chunked, Close}
use Rattle.mx_head.specs.Summary.{Summary, framing_by, keeps_by}
use Rattle.mx_head.proofs.SummaryLemmas.{framing_agrees, keeps_agrees}
use Rattle.mx_body.specs.declared.chunked.place.ChunkedPlace.TheVariants as place
use Rattle.mx_body.specs.Response.{print_heads, StandsAtBody}
use Rattle.mx_body.specs.Decision.{HasFinalHead, HasHeads, EndsTooSoon, HasStatus, HasLocation, TellsLocation, IsPlaceIn, bytes_at}
use Rattle.mx_body.specs.Progress.{place_at}
use Rattle.mx_body.specs.Steps.{HasHeadAt}
use Rattle.mx_body.specs.declared.progress.Phase.TheVariants.{Body}
use Rattle.mx_body.proofs.HeadsLemmas.{body_stands}
use Rattle.mx_body.proofs.ProgressLemmas.{known_location, located_bytes, located_within}
use Rattle.mx_flow.specs.Flows.{FlowValue, HasState, IsFed, IsBodyOf, content_of, content_so_far}
use Rattle.mx_flow.specs.Responses.{IsResponseOf, HasCome}
use Rattle.mx_flow.specs.Streams.{HasBadFraming, StreamValue, HasStand, IsStream, IsTaken, HasEnd, TellsKeeps}
use Rattle.mx_flow.specs.Stages.{stand_of, AreKept, headless, at_stage, IsStage, HasKept, HasBodyEnd}
use Rattle.mx_flow.specs.declared.flow.BodyState.{BodyState}
use Rattle.mx_flow.specs.declared.flow.BodyState.TheVariants as state
use Rattle.mx_flow.specs.declared.stream_state.StreamState.{StreamState}
use Rattle.mx_flow.specs.declared.stream_state.StreamState.TheVariants as stand
use Rattle.mx_flow.specs.declared.stage.KeptHeads.{KeptHeads}
use Rattle.mx_flow.specs.declared.stage.Stage.{Stage}
use Rattle.mx_flow.specs.declared.stage.Stage.TheVariants as stage
use Rattle.mx_flow.proofs.DataLemmas.{data_from-nil}
use Rattle.mx_flow.proofs.ResponseProofs.{body_of, makes_response}
use Rattle.mx_flow.proofs.StreamProofs.{heads_alone, final_in_front, bad_heads_hopeless, bad_framing_hopeless, bad_body_hopeless, headless_content, refused_content, none_at_end}

-- the final head isn't in the bytes before it
pub ends_behind : (heads : List ℕ) (len : ℕ) (x : Summary) (end : ℕ) → (HasFinalHead (take len heads) → ⊥) → len ≤ length heads → HasHeadAt heads x end → len ≤ end
ends_behind heads len x end none within d = elim (cases_lt end len) [
  | inl short ↦ absurd (none (final_in_front (take len heads) (drop len heads) d.interim d.head d.rest
      (subst (λ (t : List ℕ). StandsAtBody t d.interim d.head d.rest) (sym (take-append-drop len heads)) d.stands)
      (omega (arith, short, d.end_is, length-take-le len heads within))))
  | inr long ↦ long
]

up_to : (xs ys : List ℕ) → take (length xs) (xs ++ ys) ≡ xs
up_to [] ys = refl
up_to (x ∷ xs) ys = ap (λ (t : List ℕ). x ∷ t) (up_to xs ys)

after : (xs ys : List ℕ) → drop (length xs) (xs ++ ys) ≡ ys
after [] ys = refl
after (x ∷ xs) ys = after xs ys

-- what was there before a piece, and the piece
pub before_read : (old piece new seen : List ℕ) → new ≡ old ++ piece → seen ≡ old → (take (length seen) new ≡ old) × (drop (length seen) new ≡ piece)
before_read old piece new seen is same = (
  ap (λ (n : List ℕ). take (length n) new) same ∙ ap (take (length old)) is ∙ up_to old piece,
  ap (λ (n : List ℕ). drop (length n) new) same ∙ ap (drop (length old)) is ∙ after old piece,
)

-- the bytes up to the end of the final head
pub heads_are_kept : (heads kept : List ℕ) (x : Summary) (end : ℕ) → kept ≡ take end heads → HasHeadAt heads x end → HasHeadAt kept x (length kept)
heads_are_kept heads kept x end is d =
    let front = print_heads d.interim ++ print_response d.head in
    let alone = heads_alone heads d.interim d.head d.rest d.stands in
    let same : kept ≡ front = is ∙ ap (λ (t : List ℕ). take end t) alone.1 ∙ ap (λ (n : ℕ). take n (front ++ d.rest)) d.end_is ∙ up_to front d.rest in
    subst (λ (t : List ℕ). HasHeadAt t x (length t)) (sym same) (record {
      interim = d.interim;
      head = d.head;
      rest = [];
      stands = alone.0;
      describes = d.describes;
      end_is = refl;
      within = omega arith;
      small = omega (arith, d.end_is, d.small);
    })

-- nothing stands after them
kept_stand : (kept : KeptHeads) → (k : AreKept kept) → StandsAtBody kept.bytes.items k.interim k.head []
kept_stand kept k =
    let alone = heads_alone kept.bytes.items k.interim k.head k.rest k.stands in
    let none : k.rest ≡ [] = nil_from_length k.rest (omega (arith, k.end_is, ap length alone.1, length-append (print_heads k.interim ++ print_response k.head) k.rest)) in
    subst (StandsAtBody kept.bytes.items k.interim k.head) none k.stands

-- they are the heads of all bytes that begin with them
pub kept_heads : (kept : KeptHeads) (came : List ℕ) → AreKept kept → HasHeads (kept.bytes.items ++ came) kept.bytes.items
kept_heads kept came k =
    let stands = kept_stand kept k in
    inl (
      k.interim,
      k.head,
      came,
      body_stands (kept.bytes.items ++ came) kept.bytes.items came k.interim k.head [] refl stands,
      stands.1.1 ∙ ap (λ (t : List ℕ). print_heads k.interim ++ t) (append-nil (print_response k.head)),
    )

pub kept_come : (m : Method) (kept : KeptHeads) (framing : Framing) (came : List ℕ) → AreKept kept → framing_by m kept.head ≡ Ok framing → HasCome m (kept.bytes.items ++ came) framing came
kept_come m kept framing came k asked = record {
  interim = k.interim;
  head = k.head;
  stands = body_stands (kept.bytes.items ++ came) kept.bytes.items came k.interim k.head [] refl (kept_stand kept k);
  asked = sym (framing_agrees m kept.head k.head k.describes) ∙ asked;
}

pub kept_refused : (m : Method) (kept : KeptHeads) (c : Code) → AreKept kept → framing_by m kept.head ≡ Err c → HasBadFraming m kept.bytes.items c
kept_refused m kept c k asked = (k.interim, k.head, kept_stand kept k, sym (framing_agrees m kept.head k.head k.describes) ∙ asked)

-- a body is that of a response
body_stands_so : (m : Method) (bytes heads : List ℕ) (f : FlowValue) (s : BodyState) → HasCome m bytes f.framing f.came → HasState f.limit f.framing f.came s
    → HasStand (record { method = m; limit = f.limit; wire = bytes; heads = heads; content = content_of f; stand = stand_of s }) (stand_of s)
body_stands_so m bytes heads f state.More come is = inr (f.framing, f.came, come, is)
body_stands_so m bytes heads f state.Whole come is = makes_response f.limit m f.framing false bytes f.came (content_of f) come is
body_stands_so m bytes heads f state.Bad come is =
    (bad_body_hopeless f.limit m f.framing bytes f.came come is.0, inr (inr (f.framing, f.came, come, inl (is.1, refl))))
body_stands_so m bytes heads f state.TooLarge come is =
    (bad_body_hopeless f.limit m f.framing bytes f.came come is.0, inr (inr (f.framing, f.came, come, inr (is.1, refl))))

-- each stage says what the bytes are
pub stage_is_stream : (m : Method) (limit : ℕ) (s : Stage) → IsStage m limit s → IsStream (at_stage m limit s)
stage_is_stream m limit (stage.Heads heads) is = record {
  heads = inr (is.0, refl);
  content = headless_content limit m heads is.0;
  stand = inl (is.0, is.1 m);
}
stage_is_stream m limit (stage.BadHeads heads c) is = record {
  heads = inr (is.0, refl);
  content = headless_content limit m heads is.0;
  stand = (bad_heads_hopeless limit m heads c is.0 is.1, inl (is.0, is.1 m));
}
stage_is_stream m limit (stage.BadFraming kept c) is =
    let refused = kept_refused m kept c is.0 is.1 in
    record {
      heads = subst (λ (t : List ℕ). HasHeads t kept.bytes.items) (append-nil kept.bytes.items) (kept_heads kept [] is.0);
      content = refused_content limit m kept.bytes.items c refused;
      stand = (bad_framing_hopeless limit m kept.bytes.items c refused, inr (inl refused));
    }
stage_is_stream m limit (stage.Body kept flow) is =
    let come = kept_come m kept flow.framing flow.came is.0 is.1 in
    subst (λ (n : ℕ). IsStream (record {
      method = m;
      limit = n;
      wire = kept.bytes.items ++ flow.came;
      heads = kept.bytes.items;
      content = content_of flow;
      stand = stand_of flow.state;
    })) is.2 (record {
      heads = kept_heads kept flow.came is.0;
      content = inl (flow.framing, flow.came, come, refl);
      stand = body_stands_so m (kept.bytes.items ++ flow.came) kept.bytes.items flow flow.state come is.3;
    })

-- nothing is taken where nothing can be
pub none_taken : (s : StreamValue) (piece before : List ℕ) → s.stand ≢ stand.More → IsTaken s s 0 piece before before
none_taken s piece before decided = record {
  within = omega arith;
  wire = sym (append-nil s.wire);
  method = refl;
  limit = refl;
  all = λ more. absurd (decided more);
  added = [];
  handed = sym (append-nil before);
  grown = sym (append-nil s.content);
}

-- the bytes after the ones that were there before, up to the end of the final head and n more
taken_on : (heads : List ℕ) (len end n : ℕ) → len ≤ end → take end heads ++ take n (drop end heads) ≡ take len heads ++ take (end - len + n) (drop len heads)
taken_on heads len end n behind =
    let same : end + n ≡ len + (end - len + n) = omega (arith, behind) in
    sym (take-add end n heads) ∙ ap (λ (k : ℕ). take k heads) same ∙ take-add len (end - len + n) heads

-- all are taken while no final head has come
pub heads_taken : (m : Method) (limit : ℕ) (heads : List ℕ) (len n : ℕ) (s : StreamState) (before : List ℕ) → len ≤ length heads → n ≡ length heads - len
    → IsTaken (headless m limit (take len heads) stand.More) (headless m limit heads s) n (drop len heads) before before
heads_taken m limit heads len n s before within is = record {
  within = omega (arith, is, length-drop len heads);
  wire = sym (take-append-drop len heads) ∙ ap (λ (t : List ℕ). take len heads ++ t) (sym (ap (λ (k : ℕ). take k (drop len heads)) is ∙ take_rest heads len));
  method = refl;
  limit = refl;
  all = λ more. (is ∙ sym (length-drop len heads));
  added = [];
  handed = sym (append-nil before);
  grown = refl;
}

-- the final head's framing is refused
pub refused_taken : (m : Method) (limit : ℕ) (heads : List ℕ) (len end : ℕ) (kept : KeptHeads) (c : Code) (before : List ℕ) → kept.bytes.items ≡ take end heads
    → len ≤ end → end ≤ length heads
    → IsTaken (headless m limit (take len heads) stand.More) (at_stage m limit (stage.BadFraming kept c)) (end - len) (drop len heads) before before
refused_taken m limit heads len end kept c before is behind within = record {
  within = omega (arith, behind, within, length-drop len heads);
  wire = is ∙ sym (append-nil (take end heads)) ∙ taken_on heads len end 0 behind ∙ ap (λ (n : ℕ). take len heads ++ take n (drop len heads)) (let same : end - len + 0 ≡ end - len = omega arith in same);
  method = refl;
  limit = refl;
  all = λ more. (let both : stand.Fault c ≡ stand.More = more in absurd (cc));
  added = [];
  handed = sym (append-nil before);
  grown = refl;
}

none_so_far : (limit : ℕ) (framing : Framing) → content_so_far limit framing [] ≡ []
none_so_far limit Empty = take-nil limit
none_so_far limit (Counted n) = take-nil limit
none_so_far limit Chunked = ap (take limit) (data_from-nil limit place.Start) ∙ take-nil limit
none_so_far limit Close = take-nil limit

open_more : (s : BodyState) → stand_of s ≡ stand.More → s ≡ state.More
open_more state.More e = refl
open_more state.Whole e = cc
open_more state.Bad e = cc
open_more state.TooLarge e = cc

-- a body has begun
pub begun_taken : (m : Method) (limit : ℕ) (heads : List ℕ) (len end n : ℕ) (kept : KeptHeads) (first flow : FlowValue) (before after : List ℕ)
    → kept.bytes.items ≡ take end heads → len ≤ end → end ≤ length heads → first.came ≡ [] → IsFed first flow n (drop end heads) before after
    → IsTaken (headless m limit (take len heads) stand.More) (at_stage m limit (stage.Body kept flow)) (end - len + n) (drop len heads) before after
begun_taken m limit heads len end n kept first flow before after is behind within none fed =
    let came : flow.came ≡ take n (drop end heads) = ap (λ (f : FlowValue). f.came) fed.came ∙ ap (λ (t : List ℕ). t ++ take n (drop end heads)) none in
    record {
      within = omega (arith, behind, within, fed.within, length-drop len heads, length-drop end heads);
      wire = ap (λ (t : List ℕ). t ++ flow.came) is ∙ ap (λ (t : List ℕ). take end heads ++ t) came ∙ taken_on heads len end n behind;
      method = refl;
      limit = refl;
      all = λ more. (let all = fed.all (open_more flow.state more) in omega (arith, behind, within, all, length-drop len heads, length-drop end heads));
      added = fed.added;
      handed = fed.handed;
      grown = fed.grown ∙ ap (λ (t : List ℕ). t ++ fed.added) (ap (content_so_far first.limit first.framing) none ∙ none_so_far first.limit first.framing);
    }

-- a body goes on
pub body_taken : (m : Method) (limit : ℕ) (kept : KeptHeads) (old new : FlowValue) (n : ℕ) (piece before after : List ℕ) → IsFed old new n piece before after
    → IsTaken (at_stage m limit (stage.Body kept old)) (at_stage m limit (stage.Body kept new)) n piece before after
body_taken m limit kept old new n piece before after fed = record {
  within = fed.within;
  wire = ap (λ (f : FlowValue). kept.bytes.items ++ f.came) fed.came ∙ sym (append_assoc kept.bytes.items old.came (take n piece));
  method = refl;
  limit = refl;
  all = λ more. fed.all (open_more new.state more);
  added = fed.added;
  handed = fed.handed;
  grown = fed.grown;
}

-- a response where the connection ends with its body
pub body_ends : (m : Method) (limit : ℕ) (kept : KeptHeads) (flow : FlowValue) (s : StreamState) → IsStage m limit (stage.Body kept flow) → HasBodyEnd flow s
    → HasEnd (at_stage m limit (stage.Body kept flow)) s
body_ends m limit kept flow stand.More is h = h
body_ends m limit kept flow stand.Whole is h =
    let bytes = kept.bytes.items ++ flow.came in
    let come = kept_come m kept flow.framing flow.came is.0 is.1 in
    subst (λ (n : ℕ). IsResponseOf n m bytes true (content_of flow)) is.2 (makes_response flow.limit m flow.framing true bytes flow.came (content_of flow) come h)
body_ends m limit kept flow (stand.Fault c) is h = (none, by_state h.1)
  where
    come : HasCome m (kept.bytes.items ++ flow.came) flow.framing flow.came
    come = kept_come m kept flow.framing flow.came is.0 is.1

    none : (content : List ℕ) → IsResponseOf limit m (kept.bytes.items ++ flow.came) true content → ⊥
    none content r =
        let bytes = kept.bytes.items ++ flow.came in
        let same = subst (λ (n : ℕ). IsResponseOf n m (bytes ++ []) true content) (sym is.2) (subst (λ (t : List ℕ). IsResponseOf limit m t true content) (sym (append-nil bytes)) r) in
        h.0 content (subst (λ (t : List ℕ). IsBodyOf flow.limit flow.framing true t content) (append-nil flow.came)
        (body_of flow.limit m flow.framing true bytes flow.came [] content come same))

    by_state : (stand_of flow.state ≡ stand.Fault c) ⊎ ((flow.state ≡ state.More) × (c ≡ code.PartialFile))
        → (stand_of flow.state ≡ stand.Fault c) ⊎ ((stand_of flow.state ≡ stand.More) × EndsTooSoon (kept.bytes.items ++ flow.came) c)
    by_state (inl e) = inl e
    by_state (inr cut) = inr (ap stand_of cut.0, inr (inr ((come.interim, come.head, flow.came, come.stands), cut.1)))

kept_there : (kept : KeptHeads) (came : List ℕ) → AreKept kept → HasHeadAt (kept.bytes.items ++ came) kept.head (length kept.bytes.items)
kept_there kept came k = record {
  interim = k.interim;
  head = k.head;
  rest = came;
  stands = body_stands (kept.bytes.items ++ came) kept.bytes.items came k.interim k.head [] refl (kept_stand kept k);
  describes = k.describes;
  end_is = k.end_is;
  within = omega (arith, length-append kept.bytes.items came);
  small = k.small;
}

-- the heads that are kept
pub kept_of_body : (m : Method) (limit : ℕ) (kept : KeptHeads) (flow : FlowValue) → AreKept kept → HasKept (at_stage m limit (stage.Body kept flow)) kept
kept_of_body m limit kept flow k = record { own = k; came = flow.came; wire = refl; heads = refl }

pub kept_of_refused : (m : Method) (limit : ℕ) (kept : KeptHeads) (c : Code) → AreKept kept → HasKept (at_stage m limit (stage.BadFraming kept c)) kept
kept_of_refused m limit kept c k = record { own = k; came = []; wire = sym (append-nil kept.bytes.items); heads = refl }

-- what they say
head_there : (s : StreamValue) (kept : KeptHeads) → HasKept s kept → HasHeadAt s.wire kept.head (length kept.bytes.items)
head_there s kept k = subst (λ (t : List ℕ). HasHeadAt t kept.head (length kept.bytes.items)) (sym k.wire) (kept_there kept k.came k.own)

pub tells_keeps : (s : StreamValue) (kept : KeptHeads) → HasKept s kept → TellsKeeps s.wire (keeps_by kept.head)
tells_keeps s kept k = let d = head_there s kept k in inl (d.interim, d.head, d.rest, d.stands, keeps_agrees kept.head d.head d.describes)

pub tells_status : (s : StreamValue) (kept : KeptHeads) → HasKept s kept → HasStatus s.wire kept.head.status
tells_status s kept k = let d = head_there s kept k in inl (d.interim, d.head, d.rest, d.stands, d.describes.status)

pub has_location : (s : StreamValue) (kept : KeptHeads) → HasKept s kept → HasLocation s.wire (place_at kept.head (length kept.bytes.items))
has_location s kept k = known_location s.wire (Body kept.head (length kept.bytes.items)) (head_there s kept k)

pub tells_location : (s : StreamValue) (kept : KeptHeads) → HasKept s kept → TellsLocation s.wire (bytes_at s.heads (place_at kept.head (length kept.bytes.items)))
tells_location s kept k =
    let place = place_at kept.head (length kept.bytes.items) in
    subst (λ (t : List ℕ). TellsLocation s.wire (bytes_at t place)) (sym k.heads)
    (subst (λ (t : List ℕ). TellsLocation t (bytes_at kept.bytes.items place)) (sym k.wire)
    (longer (bytes_at kept.bytes.items place) (located_bytes kept.bytes.items place (known_location kept.bytes.items (Body kept.head (length kept.bytes.items)) k.own))))
  where
    longer : (value : Option (List ℕ)) → TellsLocation kept.bytes.items value → TellsLocation (kept.bytes.items ++ k.came) value
    longer value (inl l) = inl (l.0, l.1, l.2 ++ k.came, body_stands (kept.bytes.items ++ k.came) kept.bytes.items k.came l.0 l.1 l.2 refl l.3, l.4)
    longer value (inr none) = absurd (none.0 (k.own.interim, k.own.head, k.own.rest, k.own.stands))

pub location_within : (s : StreamValue) (kept : KeptHeads) → HasKept s kept → IsPlaceIn (length s.heads) (place_at kept.head (length kept.bytes.items))
location_within s kept k =
    let place = place_at kept.head (length kept.bytes.items) in
    subst (λ (t : List ℕ). IsPlaceIn (length t) place) (sym k.heads)
    (located_within kept.bytes.items place (known_location kept.bytes.items (Body kept.head (length kept.bytes.items)) k.own))

-- the end of a response at each stage
pub refused_ends : (m : Method) (limit : ℕ) (s : Stage) (kept : KeptHeads) (c : Code) → IsStage m limit s → s ≡ stage.BadFraming kept c → HasEnd (at_stage m limit s) (stand.Fault c)
refused_ends m limit s kept c is e =
    let refused = subst (IsStage m limit) e is in
    subst (λ (t : Stage). HasEnd (at_stage m limit t) (stand.Fault c)) (sym e)
    (none_at_end (at_stage m limit (stage.BadFraming kept c)) (bad_framing_hopeless limit m kept.bytes.items c (kept_refused m kept c refused.0 refused.1)), inl refl)

pub body_ends_so : (m : Method) (limit : ℕ) (s : Stage) (kept : KeptHeads) (flow : FlowValue) (end : StreamState) → IsStage m limit s → s ≡ stage.Body kept flow → HasBodyEnd flow end
    → HasEnd (at_stage m limit s) end
body_ends_so m limit s kept flow end is e h =
    subst (λ (t : Stage). HasEnd (at_stage m limit t) end) (sym e) (body_ends m limit kept flow end (subst (IsStage m limit) e is) h)
