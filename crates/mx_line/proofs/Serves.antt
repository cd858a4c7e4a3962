-- The calls of one turn.
use Rattle.std.proofs.Common.{◌≡◌, ℕ, ◌+◌, ◌≤◌, ◌<◌, Bool, true, false, List, [], ◌∷◌, ◌++◌, refl, sym, ◌∙◌, ap, append_assoc, append-nil, arith, inl, inr, ◌⊎◌}
use Rattle.std.specs.Prelude.{count_by}
use Rattle.mx_types.specs.declared.code.Code.{Code}
use Rattle.mx_reader.specs.Readers.{ReaderValue, HandsOn}
use Rattle.mx_link.specs.Answers.{is_connect, is_read, is_write}
use Rattle.mx_link.specs.declared.answers.Answer.{Answer}
use Rattle.mx_link.specs.declared.answers.Answer.TheVariants as said
use Rattle.mx_line.specs.Calls.{Calls, StepsTo}
use Rattle.mx_line.specs.Lines.{LineState, IsOpen, IsGoing, ReadsOn, Grows, HaltSo, ServesTo}
use Rattle.mx_line.specs.declared.calls.Step.TheVariants as step
use Rattle.mx_line.specs.declared.calls.Halt.{Halt}
use Rattle.mx_line.specs.declared.calls.Halt.TheVariants as halt
use Rattle.mx_line.proofs.Ordered.{count-push}

-- an answer is of one kind
pub kinds : (a : Answer) → (count_by is_connect (a ∷ []) + count_by is_read (a ∷ []) + count_by is_write (a ∷ []) ≡ 1)
kinds said.Connected = refl
kinds said.ConnectBlocked = refl
kinds said.ConnectFailed = refl
kinds (said.Gave piece) = refl
kinds said.ReadBlocked = refl
kinds said.ReadEnded = refl
kinds said.ReadFailed = refl
kinds (said.Took piece) = refl
kinds said.WriteBlocked = refl
kinds said.WriteFailed = refl

counted : (p : Answer → Bool) (a : Answer) → p a ≡ true → count_by p (a ∷ []) ≡ 1
counted p a e = rw e refl

unconnects : (a : Answer) → (is_connect a ≡ true → ⊥) → count_by is_connect (a ∷ []) ≡ 0
unconnects said.Connected never = absurd (never refl)
unconnects said.ConnectBlocked never = absurd (never refl)
unconnects said.ConnectFailed never = absurd (never refl)
unconnects (said.Gave piece) never = refl
unconnects said.ReadBlocked never = refl
unconnects said.ReadEnded never = refl
unconnects said.ReadFailed never = refl
unconnects (said.Took piece) never = refl
unconnects said.WriteBlocked never = refl
unconnects said.WriteFailed never = refl

not_none : (more : List Answer) (a : Answer) → more ++ a ∷ [] ≡ [] → ⊥
not_none [] a e = cc
not_none (x ∷ more) a e = cc

-- what a reader hands on: nothing, what it was fed, and this and then that
pub reads_none : (r : ReaderValue) (out : List ℕ) → ReadsOn r r out out
reads_none r out = record {
  limit = refl;
  method = refl;
  hands = record { added = []; grown = sym (append-nil r.judgement.content); handed = sym (append-nil out) };
}

pub reads_same : (old new : ReaderValue) (before after : List ℕ) → new.limit ≡ old.limit → new.method ≡ old.method → new.judgement.content ≡ old.judgement.content → after ≡ before → ReadsOn old new before after
reads_same old new before after limit method content out = record {
  limit = limit;
  method = method;
  hands = record { added = []; grown = content ∙ sym (append-nil old.judgement.content); handed = out ∙ sym (append-nil before) };
}

pub reads_fed : (old new : ReaderValue) (before after : List ℕ) → new.limit ≡ old.limit → new.method ≡ old.method → HandsOn old new before after → ReadsOn old new before after
reads_fed old new before after limit method h = record { limit = limit; method = method; hands = record { added = h.added; grown = h.grown; handed = h.handed } }

pub reads_then : (old mid new : ReaderValue) (before between after : List ℕ) → ReadsOn old mid before between → ReadsOn mid new between after → ReadsOn old new before after
reads_then old mid new before between after a b = record {
  limit = b.limit ∙ a.limit;
  method = b.method ∙ a.method;
  hands = record {
    added = a.hands.added ++ b.hands.added;
    grown = b.hands.grown ∙ ap (λ (l : List ℕ). l ++ b.hands.added) a.hands.grown ∙ append_assoc old.judgement.content a.hands.added b.hands.added;
    handed = b.hands.handed ∙ ap (λ (l : List ℕ). l ++ b.hands.added) a.hands.handed ∙ append_assoc before a.hands.added b.hands.added;
  };
}

-- the turn so far
pub record Serves {L : Type 0} (old new : LineState L) (turn reads writes : ℕ) (d : ReaderValue) : Type 0 where
  pub more : List Answer
  pub grows : Grows old new more
  pub connects : ℕ
  pub calls : Calls more connects reads writes
  pub going : IsGoing old.request.method new.answers d
  pub turn_is : turn ≡ connects + reads + writes
  pub once : connects ≤ 1
  pub unmade : new.stands ≡ false → connects ≡ 0

module _ {L : Type 0} where
  pub Serves-none : (old : LineState L) (d : ReaderValue) → IsGoing old.request.method old.answers d → Serves old old 0 0 0 d
  Serves-none old d g = record {
    more = [];
    grows = ap (λ (l : List Answer). record old { answers = l }) (sym (append-nil old.answers));
    connects = 0;
    calls = record { connects_are = refl; reads_are = refl; writes_are = refl };
    going = g;
    turn_is = refl;
    once = omega arith;
    unmade = λ e. refl;
  }

  -- growing twice is growing
  pub Grows-push : (old mid new : LineState L) (more : List Answer) (a : Answer) → Grows old mid more → Grows mid new (a ∷ []) → Grows old new (more ++ a ∷ [])
  Grows-push old mid new more a e f =
      f
      ∙ ap (λ (m : LineState L). record m { link = new.link; answers = m.answers ++ a ∷ []; stands = new.stands; written = new.written }) e
      ∙ ap (λ (l : List Answer). record old { link = new.link; answers = l; stands = new.stands; written = new.written }) (append_assoc old.answers more (a ∷ []))

module _ {L : Type 0} {old mid : LineState L} {turn reads writes : ℕ} {d : ReaderValue} (s : Serves old mid turn reads writes d) where
  -- the request of the turn, and the link that it asks
  pub same_request : mid.request ≡ old.request
  same_request = ap (λ (l : LineState L). l.request) s.grows

  same_reused : mid.is_reused ≡ old.is_reused
  same_reused = ap (λ (l : LineState L). l.is_reused) s.grows

  pub Serves-going : IsGoing mid.request.method mid.answers d
  Serves-going = rw same_request s.going

  pub Serves-open : IsOpen old → IsOpen mid
  Serves-open o = record {
    probed = ap (λ (l : LineState L). l.needs_probe) s.grows ∙ o.probed;
    fresh = ap (λ (l : LineState L). l.is_stale) s.grows ∙ o.fresh;
    lasts = s.going.undecided.0;
  }

  abbrev longer : (a : Answer) → Calls (s.more ++ a ∷ []) (s.connects + count_by is_connect (a ∷ [])) (reads + count_by is_read (a ∷ [])) (writes + count_by is_write (a ∷ []))
  longer a = record {
    connects_are = count-push is_connect s.more a ∙ ap (λ (n : ℕ). n + count_by is_connect (a ∷ [])) s.calls.connects_are;
    reads_are = count-push is_read s.more a ∙ ap (λ (n : ℕ). n + count_by is_read (a ∷ [])) s.calls.reads_are;
    writes_are = count-push is_write s.more a ∙ ap (λ (n : ℕ). n + count_by is_write (a ∷ [])) s.calls.writes_are;
  }

  -- at most one connect
  once_more : (a : Answer) → (is_connect a ≡ true → mid.stands ≡ false) → s.connects + count_by is_connect (a ∷ []) ≤ 1
  once_more a unmade = elim (is_connect a) as (λ b. (is_connect a ≡ b) → s.connects + count_by is_connect (a ∷ []) ≤ 1) [
    | true ↦ λ e. omega (arith, counted is_connect a e, s.unmade (unmade e))
    | false ↦ λ e. omega (arith, unconnects a (λ y. let x : true ≡ false = sym y ∙ e in cc), s.once)
  ] refl

module _ {L : Type 0} {old mid new : LineState L} {turn reads writes : ℕ} {d : ReaderValue} (most : ℕ) (s : Serves old mid turn reads writes d) where
  -- the turn ends by this answer
  ends : (how : Halt) (to : ReaderValue) (a : Answer) → reads < most → writes < 64 → Grows mid new (a ∷ []) → (is_connect a ≡ true → mid.stands ≡ false)
      → HaltSo most how old.request.method old.is_reused new.answers to (s.more ++ a ∷ []) → ServesTo most old new how to
  ends how to a few fewer grows unmade so =
      let c = longer s a in
      record {
        more = s.more ++ a ∷ [];
        grows = Grows-push old mid new s.more a s.grows grows;
        asked = not_none s.more a;
        connects = omega (arith, c.connects_are, once_more s a unmade);
        reads = omega (arith, c.reads_are, kinds a, few);
        writes = omega (arith, c.writes_are, kinds a, fewer);
        so = so;
      }

  pub Serve-blocked : reads < most → writes < 64 → (to : ReaderValue) → StepsTo mid new step.Blocked to → ServesTo most old new halt.Blocked to
  Serve-blocked few fewer to t = ends halt.Blocked to t.answer few fewer t.grows t.unmade ((rw (same_request s) at t.so.0), (s.more, t.answer, refl, t.so.1))

  pub Serve-lost : reads < most → writes < 64 → (to : ReaderValue) → StepsTo mid new step.Lost to → ServesTo most old new halt.Lost to
  Serve-lost few fewer to t = ends halt.Lost to t.answer few fewer t.grows t.unmade (rw (same_request s, same_reused s) at t.so)

  pub Serve-over : reads < most → writes < 64 → (to : ReaderValue) (c : Code) → StepsTo mid new (step.Over c) to → ServesTo most old new (halt.Over c) to
  Serve-over few fewer to c t = ends (halt.Over c) to t.answer few fewer t.grows t.unmade (rw (same_request s, same_reused s) at t.so)

module _ {L : Type 0} {old mid new : LineState L} {turn reads writes : ℕ} {d : ReaderValue} (s : Serves old mid turn reads writes d) where
  -- the turn goes on
  grown : (r w : ℕ) (to : ReaderValue) (a : Answer) → Grows mid new (a ∷ []) → (is_connect a ≡ true → mid.stands ≡ false) → (mid.stands ≡ true → new.stands ≡ true)
      → IsGoing mid.request.method new.answers to → (new.stands ≡ false → is_connect a ≡ true → ⊥)
      → reads + count_by is_read (a ∷ []) ≡ r → writes + count_by is_write (a ∷ []) ≡ w → Serves old new (turn + 1) r w to
  grown r w to a grows unmade kept g other er ew =
      let c = longer s a in
      let unstood : new.stands ≡ false → mid.stands ≡ false = λ e. elim mid.stands as (λ b. (mid.stands ≡ b) → mid.stands ≡ false) [
        | true ↦ λ y. let x : true ≡ false = sym (kept y) ∙ e in cc
        | false ↦ λ y. y
      ] refl in
      record {
        more = s.more ++ a ∷ [];
        grows = Grows-push old mid new s.more a s.grows grows;
        connects = s.connects + count_by is_connect (a ∷ []);
        calls = record { connects_are = c.connects_are; reads_are = c.reads_are ∙ er; writes_are = c.writes_are ∙ ew };
        going = rw (same_request s) at g;
        turn_is = omega (arith, kinds a, s.turn_is, er, ew);
        once = once_more s a unmade;
        unmade = λ e. omega (arith, unconnects a (other e), s.unmade (unstood e));
      }

  pub Serves-connected : (to : ReaderValue) → StepsTo mid new step.Connected to → Serves old new (turn + 1) reads writes to
  Serves-connected to t =
      let one = counted is_connect t.answer t.so.1 in
      let all = kinds t.answer in
      grown reads writes to t.answer t.grows t.unmade t.kept t.so.0 (λ e y. let x : true ≡ false = sym t.so.2 ∙ e in cc) (omega (arith, one, all)) (omega (arith, one, all))

  pub Serves-wrote : (to : ReaderValue) → StepsTo mid new step.Wrote to → Serves old new (turn + 1) reads (writes + 1) to
  Serves-wrote to t =
      let one = counted is_write t.answer t.so.1 in
      let all = kinds t.answer in
      grown reads (writes + 1) to t.answer t.grows t.unmade t.kept t.so.0 (λ e y. let two = counted is_connect t.answer y in omega (arith, one, two, all)) (omega (arith, one, all)) (omega (arith, one))

  pub Serves-heard : (to : ReaderValue) → StepsTo mid new step.Heard to → Serves old new (turn + 1) (reads + 1) writes to
  Serves-heard to t =
      let one = counted is_read t.answer t.so.1 in
      let all = kinds t.answer in
      grown (reads + 1) writes to t.answer t.grows t.unmade t.kept t.so.0 (λ e y. let two = counted is_connect t.answer y in omega (arith, one, two, all)) (omega (arith, one)) (omega (arith, one, all))

-- as many calls were made as one turn may make
pub Serves-full : {L : Type 0} {old new : LineState L} {turn reads writes : ℕ} {d : ReaderValue} → (most : ℕ) → 0 < most → (s : Serves old new turn reads writes d) → reads ≤ most → writes ≤ 64
    → (reads ≡ most) ⊎ (writes ≡ 64) → ServesTo most old new halt.Unfinished d
Serves-full most some s few fewer full = record {
  more = s.more;
  grows = s.grows;
  asked = λ none.
      let nothing : (p : Answer → Bool) → count_by p s.more ≡ 0 = λ p. ap (λ (l : List Answer). count_by p l) none in
      elim full [
        | inl x ↦ let y = s.calls.reads_are in let z = nothing is_read in absurd (omega (arith, some, x, y, z))
        | inr x ↦ let y = s.calls.writes_are in let z = nothing is_write in absurd (omega (arith, x, y, z))
      ];
  connects = omega (arith, s.calls.connects_are, s.once);
  reads = omega (arith, s.calls.reads_are, few);
  writes = omega (arith, s.calls.writes_are, fewer);
  so = (s.going, elim full [ inl x ↦ inl (s.calls.reads_are ∙ x) | inr x ↦ inr (s.calls.writes_are ∙ x) ]);
}
