-- What is handed on of a hop, turn by turn.
use Rattle.std.proofs.Common.{◌≡◌, ℕ, Bool, true, false, List, [], ◌∷◌, ◌++◌, length, take, Option, Some, None, refl, sym, ap, subst, ◌∙◌, ◌⊎◌, inl, inr, arith, append-nil, length-append}
use Rattle.std.specs.Prelude.{◌==◌, not, ◌&&◌, is_some, if◌then◌else◌}
use Rattle.mx_types.specs.declared.method.Method.{Method}
use Rattle.mx_request.specs.Redirects.{is_redirect_status}
use Rattle.mx_request.specs.Request.{RequestValue}
use Rattle.mx_body.specs.Decision.{HasFinalHead, HasStatus, TellsLocation}
use Rattle.mx_body.specs.declared.decoder.Stand.{Stand}
use Rattle.mx_body.specs.declared.decoder.Stand.TheVariants as stand
use Rattle.mx_body.proofs.EmptyLemmas.{no_final}
use Rattle.mx_body.proofs.HeadsLemmas.{body_stands}
use Rattle.mx_body.proofs.LawLemmas.{one_status, one_location}
use Rattle.mx_reader.specs.Judgements.{Judgement, StandsSo}
use Rattle.mx_link.specs.Answers.{given}
use Rattle.mx_link.specs.declared.answers.Answer.{Answer}
use Rattle.mx_line.specs.Lines.{HandsOver}
use Rattle.mx_exchange.specs.Exchanges.{HopValue, ExchangeState, IsExchange, IsHandedOn, LinkTold, TellsSending, WantsLink, attached, clocked}
use Rattle.mx_exchange.specs.Hops.{IsHop}
use Rattle.mx_exchange.specs.Turns.{How, Turns, ends, late, given_up, turned, ended, content_by, wire_by}
use Rattle.mx_exchange.proofs.Advanced.{Turns-grows}
use Rattle.mx_chain.specs.Chains.{ChainState, IsChain, IsPassedOn}
use Rattle.mx_chain.specs.Hops.{LeadTo, sends_on}
use Rattle.mx_chain.specs.Outcomes.{passed_on}
use Rattle.mx_chain.specs.Passing.{passed, SettlesContent}

-- the final head is one, and so is what it says
pub sending_one : (wire : List ℕ) (s t : Bool) → TellsSending wire s → TellsSending wire t → s ≡ t
sending_one wire s t x y =
    x.sends_is
    ∙ ap (λ (n : ℕ). is_redirect_status n && is_some x.location) (one_status wire x.status y.status x.has y.has)
    ∙ ap (λ (l : Option (List ℕ)). is_redirect_status y.status && is_some l) (one_location wire x.location y.location x.tells y.tells)
    ∙ sym y.sends_is

-- and stays, whatever comes then
sending_on : (wire more : List ℕ) (s : Bool) → HasFinalHead wire → TellsSending wire s → TellsSending (wire ++ more) s
sending_on wire more s f x = record { status = x.status; location = x.location; has = by_status x.has; tells = by_location x.tells; sends_is = x.sends_is }
  where
    by_status : HasStatus wire x.status → HasStatus (wire ++ more) x.status
    by_status (inl h) = inl (h.0, h.1, h.2 ++ more, body_stands (wire ++ more) wire more h.0 h.1 h.2 refl h.3, h.4)
    by_status (inr h) = absurd (h.0 f)

    by_location : TellsLocation wire x.location → TellsLocation (wire ++ more) x.location
    by_location (inl h) = inl (h.0, h.1, h.2 ++ more, body_stands (wire ++ more) wire more h.0 h.1 h.2 refl h.3, h.4)
    by_location (inr h) = absurd (h.0 f)

-- content comes behind a final head
final_of : (limit : Option ℕ) (m : Method) (bytes content : List ℕ) → IsHandedOn limit m bytes content → (content ≡ [] → ⊥) → HasFinalHead bytes
final_of None m bytes content h some = absurd (some (sym h.2 ∙ ap (λ (k : Judgement). k.content) h.1.0.2))
final_of (Some limit) m bytes content h some = by_stand h.0.stand h.1.1 h.1.0.1
  where
    by_stand : (s : Stand) → s ≡ stand.More → StandsSo limit m bytes false h.0 s → HasFinalHead bytes
    by_stand stand.More e x = elim x.0.handed [
      | inl c ↦ (c.2.interim, c.2.head, c.1, c.2.stands)
      | inr c ↦ absurd (some (sym h.2 ∙ c.1))
    ]
    by_stand stand.Complete e x = let both : stand.Complete ≡ stand.More = e in absurd (cc)
    by_stand (stand.Fault c) e x = let both : stand.Fault c ≡ stand.More = e in absurd (cc)

front_alone : (xs ys : List ℕ) → take (length xs) (xs ++ ys) ≡ xs
front_alone [] ys = refl
front_alone (x ∷ xs) ys = ap (λ (l : List ℕ). x ∷ l) (front_alone xs ys)

all_alone : (xs : List ℕ) → take (length xs) xs ≡ xs
all_alone [] = refl
all_alone (x ∷ xs) = ap (λ (l : List ℕ). x ∷ l) (all_alone xs)

some_cons : {A : Type 0} (x : A) (xs : List A) → x ∷ xs ≡ [] → ⊥
some_cons x xs e = cc

pub passed_none : (drops : Bool) → passed drops [] ≡ []
passed_none true = refl
passed_none false = refl

-- a hop that was ended has nothing more to hand on
pub Turns-empty : {L : Type 0} (history : L → List Answer) (t new : ExchangeState L) (o : HopValue) → Turns history t new (ends o) → new.content ≡ []
Turns-empty history t new o (late due is s) = ap (λ (x : ExchangeState _). x.content) s.ends.after
Turns-empty history t new o (given_up early is s) = ap (λ (x : ExchangeState _). x.content) s.ends.after
Turns-empty history t new o (turned m mid p (ended a e r)) = ap (λ (x : ExchangeState _). x.content) e.ends.after

-- what a hop says of itself
pub hop_tells : (o : HopValue) → IsHop o → TellsSending o.wire (is_redirect_status o.status && is_some o.location)
hop_tells o h = record { status = o.status; location = o.location; has = h.status; tells = h.location; sends_is = refl }

-- so what was handed on of it is what its outcome has
pub passed_is : (most : ℕ) (o : HopValue) (handed : List ℕ) → IsHop o → IsPassedOn most o.wire o.content handed → handed ≡ passed_on most o
passed_is most o handed h (inl none) =
    none.1 ∙ sym (ap (λ (l : List ℕ). passed (sends_on most o) l) none.0 ∙ passed_none (sends_on most o))
passed_is most o handed h (inr p) =
    p.2 ∙ ap (λ (b : Bool). if not (most == 0) && b then [] else o.content) (sending_one o.wire p.0 _ p.1 (hop_tells o h))

-- the bytes went on from those that were there, or there were none
abbrev pub WentOn : List ℕ → List ℕ → Type 0
WentOn was wire = ((rest : List ℕ) × (wire ≡ was ++ rest)) ⊎ (was ≡ [])

-- what was known of the final head is known of the bytes that go on
known_on : (was wire : List ℕ) (s : Bool) → HasFinalHead was → WentOn was wire → TellsSending was s → TellsSending wire s
known_on was wire s f (inl g) x = subst (λ (l : List ℕ). TellsSending l s) (sym g.1) (sending_on was g.0 s f x)
known_on was wire s f (inr none) x = absurd (no_final (subst HasFinalHead none f))

module _ (most : ℕ) (limit : Option ℕ) (m : Method) (was wire : List ℕ) (dropped drops : Bool) (on : WentOn was wire) where
  -- what was handed on before, where the bytes are these
  carried : (content : List ℕ) → IsHandedOn limit m was content → IsPassedOn most was content (passed dropped content) → IsPassedOn most wire content (passed dropped content)
  carried [] h p = inl (refl, passed_none dropped)
  carried (x ∷ content) h (inl none) = absurd (some_cons x content none.0)
  carried (x ∷ content) h (inr p) = inr (p.0, known_on was wire p.0 (final_of limit m was (x ∷ content) h (some_cons x content)) on p.1, p.2)

  -- where the turn has added none
  quiet : (content now before after is : List ℕ) → IsHandedOn limit m was content → IsPassedOn most was content (passed dropped content) → now ≡ content → after ≡ before → drops ≡ dropped
      → is ≡ (if drops then take (length before) after else after) → IsPassedOn most wire now (passed drops now) × HandsOver (passed dropped content) (passed drops now) before is
  quiet content now before after is h p same none d rest =
      let stays : is ≡ before = rest ∙ ap (λ (l : List ℕ). if drops then take (length before) l else l) none ∙ whole drops before in (
        subst (λ (l : List ℕ). IsPassedOn most wire l (passed drops l)) (sym same) (subst (λ (b : Bool). IsPassedOn most wire content (passed b content)) (sym d) (carried content h p)),
        record {
          added = [];
          grown = ap (λ (b : Bool). passed b now) d ∙ ap (λ (l : List ℕ). passed dropped l) same ∙ sym (append-nil (passed dropped content));
          handed = stays ∙ sym (append-nil before);
        },
      )
    where
      whole : (b : Bool) (l : List ℕ) → (if b then take (length l) l else l) ≡ l
      whole true l = all_alone l
      whole false l = refl

  -- where it has added some, and they are dropped
  lost : (content now before after is : List ℕ) → IsHandedOn limit m was content → IsPassedOn most was content (passed dropped content) → (sends : Bool) → TellsSending wire sends
      → true ≡ (not (most == 0) && sends) → is ≡ before → HandsOver (passed dropped content) [] before is
  lost [] now before after is h p sends x d stays = record { added = []; grown = sym (append-nil (passed dropped []) ∙ passed_none dropped); handed = stays ∙ sym (append-nil before) }
  lost (y ∷ content) now before after is h (inl none) sends x d stays = absurd (some_cons y content none.0)
  lost (y ∷ content) now before after is h (inr p) sends x d stays =
      let same : p.0 ≡ sends = sending_one wire p.0 sends (known_on was wire p.0 (final_of limit m was (y ∷ content) h (some_cons y content)) on p.1) x in
      let gone : passed dropped (y ∷ content) ≡ [] = p.2 ∙ ap (λ (b : Bool). if not (most == 0) && b then [] else y ∷ content) same ∙ ap (λ (b : Bool). if b then [] else y ∷ content) (sym d) in
      record { added = []; grown = sym (append-nil (passed dropped (y ∷ content)) ∙ gone); handed = stays ∙ sym (append-nil before) }

  -- and where they are not
  kept : (content now before after is : List ℕ) → IsHandedOn limit m was content → IsPassedOn most was content (passed dropped content) → (sends : Bool) → TellsSending wire sends
      → false ≡ (not (most == 0) && sends) → is ≡ after → HandsOver content now before after → HandsOver (passed dropped content) now before is
  kept [] now before after is h p sends x d stays hands = record { added = hands.added; grown = hands.grown ∙ ap (λ (l : List ℕ). l ++ hands.added) (sym (passed_none dropped)); handed = stays ∙ hands.handed }
  kept (y ∷ content) now before after is h (inl none) sends x d stays hands = absurd (some_cons y content none.0)
  kept (y ∷ content) now before after is h (inr p) sends x d stays hands =
      let same : p.0 ≡ sends = sending_one wire p.0 sends (known_on was wire p.0 (final_of limit m was (y ∷ content) h (some_cons y content)) on p.1) x in
      let there : passed dropped (y ∷ content) ≡ y ∷ content = p.2 ∙ ap (λ (b : Bool). if not (most == 0) && b then [] else y ∷ content) same ∙ ap (λ (b : Bool). if b then [] else y ∷ content) (sym d) in
      record { added = hands.added; grown = hands.grown ∙ ap (λ (l : List ℕ). l ++ hands.added) (sym there); handed = stays ∙ hands.handed }

  -- what a turn hands on of the hop
  pub passes : (n : ℕ) (content now before after is : List ℕ) → n ≡ length before → IsHandedOn limit m was content → IsPassedOn most was content (passed dropped content)
      → HandsOver content now before after → SettlesContent most dropped wire n after is drops → IsPassedOn most wire now (passed drops now) × HandsOver (passed dropped content) (passed drops now) before is
  passes n content now before after is len h p hands s = by hands.added hands.grown hands.handed
    where
      rest : is ≡ (if drops then take (length before) after else after)
      rest = s.rest ∙ ap (λ (k : ℕ). if drops then take k after else after) len

      by_drops : (added : List ℕ) → after ≡ before ++ added → (b : Bool) → drops ≡ b → (sends : Bool) → TellsSending wire sends → drops ≡ (not (most == 0) && sends)
          → HandsOver (passed dropped content) (passed drops now) before is
      by_drops added more true e sends x d =
          let front : is ≡ before = rest ∙ ap (λ (b : Bool). if b then take (length before) after else after) e ∙ ap (λ (l : List ℕ). take (length before) l) more ∙ front_alone before added in
          subst (λ (b : Bool). HandsOver (passed dropped content) (passed b now) before is) (sym e) (lost content now before after is h p sends x (sym e ∙ d) front)
      by_drops added more false e sends x d =
          let all : is ≡ after = rest ∙ ap (λ (b : Bool). if b then take (length before) after else after) e in
          subst (λ (b : Bool). HandsOver (passed dropped content) (passed b now) before is) (sym e) (kept content now before after is h p sends x (sym e ∙ d) all hands)

      by : (added : List ℕ) → now ≡ content ++ added → after ≡ before ++ added → IsPassedOn most wire now (passed drops now) × HandsOver (passed dropped content) (passed drops now) before is
      by [] grown more =
          let same : after ≡ before = more ∙ append-nil before in
          let d = s.decides.none (omega (arith, len, ap length same)) in
          quiet content now before after is h p (grown ∙ append-nil content) same d rest
      by (x ∷ added) grown more =
          let d = s.decides.some (omega (arith, len, ap length more, length-append before (x ∷ added))) in
          (inr (d.0, d.1, ap (λ (b : Bool). if b then [] else now) d.2), by_drops (x ∷ added) more drops refl d.0 d.1 d.2)

-- where nothing was handed on of the last hop, as its head sends its request on
pub redirect_passes : (most : ℕ) (o : HopValue) → sends_on most o ≡ true → passed_on most o ≡ []
redirect_passes most o e = ap (λ (b : Bool). passed b o.content) e

-- the same, by the turn of an exchange
pub passes_by : {L : Type 0} (history : L → List Answer) (asked : L → List ℕ) (token_of : L → ℕ) (t new : ExchangeState L) (how : How) (most k n : ℕ) (dropped drops : Bool) (before after is : List ℕ)
    → IsExchange history asked token_of t → t.code ≡ None → IsPassedOn most (given t.answers) t.content (passed dropped t.content) → Turns history (clocked t) new how
    → HandsOver t.content (content_by new how) before after → n ≡ length before → k ≡ most → SettlesContent k dropped (wire_by new how) n after is drops
    → IsPassedOn most (wire_by new how) (content_by new how) (passed drops (content_by new how)) × HandsOver (passed dropped t.content) (passed drops (content_by new how)) before is
passes_by history asked token_of t new how most k n dropped drops before after is x none old turn hands len same s =
    passes most t.limit t.request.method (given t.answers) (wire_by new how) dropped drops (Turns-grows history (clocked t) new how (λ e. (x.unprobed e).1) turn) n t.content (content_by new how) before after is
    len (x.handed none) old hands (subst (λ (m : ℕ). SettlesContent m dropped (wire_by new how) n after is drops) same s)

-- an exchange without a link has no bytes, and handed nothing on
pub unlinked_none : {L : Type 0} (history : L → List Answer) (asked : L → List ℕ) (token_of : L → ℕ) (t : ExchangeState L) → IsExchange history asked token_of t → WantsLink t → t.content ≡ []
unlinked_none history asked token_of t x w =
    by t.content refl
  where
    no_answers : (attached : Option _) → LinkTold history attached None t.answers → given t.answers ≡ []
    no_answers None e = ap given e
    no_answers (Some l) e = absurd e

    by : (content : List ℕ) → t.content ≡ content → t.content ≡ []
    by [] e = e
    by (y ∷ ys) e =
        let final = final_of t.limit t.request.method (given t.answers) t.content (x.handed w.0) (λ none. some_cons y ys (sym e ∙ none)) in
        let told : LinkTold history t.attached None t.answers = subst (λ (l : Option _). LinkTold history t.attached l t.answers) w.1 x.served.told in
        absurd (no_final (subst HasFinalHead (no_answers t.attached told) final))

-- a transfer, once its hop was handed a link
pub attached_chain : {L : Type 0} (history : L → List Answer) (asked : L → List ℕ) (token_of : L → ℕ) (t : ChainState L) (link : L) (reused linked : Bool) (left : Option L)
    → IsExchange history asked token_of t.now → WantsLink t.now → IsChain t → IsChain (record t { now = attached t.now link reused; linked = linked; link = left })
attached_chain history asked token_of t link reused linked left x w c = record {
  going = c.going;
  leads = c.leads;
  few = c.few;
  bytes = c.bytes;
  kept = c.kept;
  handed = λ e.
      let none = unlinked_none history asked token_of t.now x w in
      inl (
        none,
        elim (c.handed e) [
          | inl p ↦ p.1
          | inr p ↦ p.2 ∙ ap (λ (l : List ℕ). passed (not (t.request.settings.max_redirects == 0) && p.0) l) none ∙ passed_none (not (t.request.settings.max_redirects == 0) && p.0)
        ],
      );
}

-- a transfer whose hop goes on
pub turned_chain : {L : Type 0} (t : ChainState L) (now : ExchangeState L) (content : List ℕ) → IsChain t → t.code ≡ None → now.code ≡ None → now.request ≡ t.now.request → now.limit ≡ t.now.limit
    → IsPassedOn t.request.settings.max_redirects (given now.answers) now.content content → IsChain (record t { now = now; content = content })
turned_chain t now content c none going request limit p = record {
  going = (λ e. going, λ e. none);
  leads = λ e. subst (λ (r : RequestValue). LeadTo t.request.settings.max_redirects t.request t.hops r) (sym request) (c.leads e);
  few = c.few;
  bytes = c.bytes;
  kept = λ e. limit ∙ c.kept e;
  handed = λ e. p;
}

-- where the turn has added nothing it stays
pub held_same : (n : ℕ) (before was is : List ℕ) (drops : Bool) → n ≡ length before → was ≡ before → is ≡ (if drops then take n was else was) → is ≡ before
held_same n before was is drops len same e = e ∙ ap (λ (k : ℕ). if drops then take k was else was) len ∙ ap (λ (l : List ℕ). if drops then take (length before) l else l) same ∙ by drops
  where
    by : (b : Bool) → (if b then take (length before) before else before) ≡ before
    by true = all_alone before
    by false = refl
