-- The result of each answer of the parser.
use Rattle.std.proofs.Common.{◌≡◌, ◌≢◌, ℕ, ◌+◌, ◌<◌, ◌≤◌, ◌⊎◌, inl, inr, List, [], ◌∷◌, ◌++◌, length, take, drop, get_or, refl, sym, ap, subst, ◌∙◌, arith, append_assoc, length-append, length-take}
use Rattle.std.proofs.lemmas.List.{append-nil, take-append-drop, drop_more, length-take-le, get_or_at, take_all}
use Rattle.std.proofs.lemmas.Bool.{cases_lt}
use Rattle.httparse.specs.Ascii.{crlf_bytes}
use Rattle.httparse.specs.Grammar.{ResponseHead, print_response, ReadsResponse, HasNoResponse, NeverHasResponse, MayBecomeResponse}
use Rattle.httparse.specs.Spans.{ResponseExceeds}
use Rattle.mx_types.specs.declared.code.Code.TheVariants.{WeirdServerReply, TooLarge}
use Rattle.mx_head.specs.declared.types.HeadStep.{HeadStep}
use Rattle.mx_head.specs.declared.types.HeadStep.TheVariants as step
use Rattle.mx_head.specs.Heads.{HasNoHead}
use Rattle.mx_head.specs.Faults.{HeadCause, many_fields, never_head, long_head, head_code, head_line, HasAllFields, HasManyFields, MeetsAtHead, ComesFirst, MeetsNothing}
use Rattle.mx_head.specs.Lines.{start, IsFull, HasFieldPast}
use Rattle.mx_head.specs.Reading.{IsStepOn}
use Rattle.mx_head.specs.Summary.{Summary, Describes}
use Rattle.mx_head.proofs.LineLemmas.{front_of, full_once}
use Rattle.mx_head.proofs.FaultLemmas.{full_has_all, all_is_full, head_meets_nothing, exceeds_past}

-- ---- where a field is past the last

abbrev many_is_past : (text q more : List ℕ) → text ≡ q ++ more → HasManyFields q → HasFieldPast text
many_is_past text q more e many = record {
  front = many.0;
  next = many.1;
  after = more;
  is = e ∙ ap (λ (t : List ℕ). t ++ more) many.2 ∙ append_assoc many.0 (many.1 ∷ []) more;
  not_return = many.3;
  not_feed = many.4;
  full = all_is_full many.0 many.5;
}

pub past_split : (text : List ℕ) (e : ℕ) → e < length text → text ≡ take e text ++ get_or text e 0 ∷ drop (e + 1) text
past_split text e lt = sym (take-append-drop e text) ∙ ap (λ (t : List ℕ). take e text ++ t) (drop_more text e 0 lt)

-- a past field is where the lines are full
past_here : (text front after : List ℕ) → text ≡ front ++ after → IsFull front → (p : HasFieldPast text) → p.front ≡ front
past_here text front after e full p =
    elim (cases_lt (length front) (length p.front)) [
      | inl less ↦ sym (full_once start front p.front after (p.next ∷ p.after) full p.full (sym e ∙ p.is) (omega arith))
      | inr more ↦ full_once start p.front front (p.next ∷ p.after) after p.full full (sym p.is ∙ e) more
    ]

pub none_past : (text : List ℕ) (e : ℕ) → e ≤ length text → IsFull (take e text)
    → (e < length text → (get_or text e 0 ≡ 13) ⊎ (get_or text e 0 ≡ 10)) → HasFieldPast text → ⊥
none_past text e le full ends p =
    let same = past_here text (take e text) (drop e text) (sym (take-append-drop e text)) full p in
    let at : length p.front ≡ e = omega (arith, ap length same, length-take-le e text le) in
    let inside : e < length text = omega (arith, at, ap length p.is, length-append p.front (p.next ∷ p.after)) in
    let byte : get_or text e 0 ≡ p.next = ap (λ (t : List ℕ). get_or t e 0) p.is ∙ get_or_at p.front p.next p.after 0 e at in
    elim (ends inside) [ inl cr ↦ p.not_return (sym byte ∙ cr) | inr nl ↦ p.not_feed (sym byte ∙ nl) ]

-- ---- no bytes make it a head

never_no_head : (text more : List ℕ) → NeverHasResponse text → HasNoHead (text ++ more)
never_no_head text more never h rest r = never more h rest (r.0.grammar, r.1)

never_front : (q more : List ℕ) (h : ResponseHead) (rest : List ℕ) → NeverHasResponse q → ReadsResponse (q ++ more) h rest → ⊥
never_front q more h rest never r = never more h rest r

pub invalid_step : (text : List ℕ) → (HasFieldPast text → ⊥) → length text ≤ 65536 → NeverHasResponse text
    → HasNoHead text × ComesFirst head_code head_line MeetsAtHead text WeirdServerReply
invalid_step text few small never = (
  subst HasNoHead (append-nil text) (never_no_head text [] never),
  record {
    front = text;
    after = [];
    is_prefix = sym (append-nil text);
    cause = never_head;
    meets = never;
    code_is = refl;
    first = first;
  },
)
  where
    first : (q more : List ℕ) (other : HeadCause) → text ≡ q ++ more → MeetsAtHead q other → head_code other ≢ WeirdServerReply
        → length q ≤ length text → (length q ≡ length text) × (2 < head_line other)
    first q more many_fields e m ne le = absurd (few (many_is_past text q more e m))
    first q more never_head e m ne le = absurd (ne refl)
    first q more long_head e m ne le = (omega (arith, m.0), omega arith)

-- ---- more bytes can make it a head

may_front : (text q more : List ℕ) → text ≡ q ++ more → MayBecomeResponse text → NeverHasResponse q → ⊥
may_front text q more e may never =
    never (more ++ may.0) may.1 [] (may.2.0, sym (append_assoc q more may.0) ∙ sym (ap (λ (t : List ℕ). t ++ may.0) e) ∙ may.2.1)

none_here : (text : List ℕ) → HasNoResponse text → HasNoHead text
none_here text none h rest r = none h rest (r.0.grammar, r.1)

pub more_step : (text : List ℕ) → (HasFieldPast text → ⊥) → length text < 65536 → HasNoResponse text → MayBecomeResponse text
    → HasNoHead text × MeetsNothing MeetsAtHead text
more_step text few small none may = (none_here text none, meets_nothing)
  where
    meets_nothing : MeetsNothing MeetsAtHead text
    meets_nothing q more many_fields e m = few (many_is_past text q more e m)
    meets_nothing q more never_head e m = may_front text q more e may m
    meets_nothing q more long_head e m = absurd (omega (arith, m.0, ap length e, length-append q more))

pub long_step : (text : List ℕ) → length text ≡ 65536 → HasNoResponse text → MayBecomeResponse text
    → HasNoHead text × ComesFirst head_code head_line MeetsAtHead text TooLarge
long_step text long none may = (
  none_here text none,
  record {
    front = text;
    after = [];
    is_prefix = sym (append-nil text);
    cause = long_head;
    meets = (long, none_here text none);
    code_is = refl;
    first = first;
  },
)
  where
    first : (q more : List ℕ) (other : HeadCause) → text ≡ q ++ more → MeetsAtHead q other → head_code other ≢ TooLarge
        → length q ≤ length text → (length q ≡ length text) × (4 < head_line other)
    first q more many_fields e m ne le = absurd (ne refl)
    first q more never_head e m ne le = absurd (may_front text q more e may m)
    first q more long_head e m ne le = absurd (ne refl)

-- ---- before a field past the last: s is full, and b follows it

pub before_whole : (s : List ℕ) (b : ℕ) (after : List ℕ) (x : Summary) (h : ResponseHead) (rest : List ℕ)
    → length s ≤ 65536 → ReadsResponse s h rest → length h.fields ≤ 128 → Describes x h
    → IsStepOn (s ++ b ∷ after) (step.Head x)
before_whole s b after x h rest small reads few d = (
  h,
  rest ++ b ∷ after,
  (
    record { grammar = reads.0; bytes = omega (arith, ap length reads.1, length-append (print_response h) rest); fields = few },
    ap (λ (t : List ℕ). t ++ b ∷ after) reads.1 ∙ append_assoc (print_response h) rest (b ∷ after),
  ),
  d,
)

pub before_invalid : (s : List ℕ) (b : ℕ) (after : List ℕ) → length s < 65536 → IsFull s → NeverHasResponse s
    → HasNoHead (s ++ b ∷ after) × ComesFirst head_code head_line MeetsAtHead (s ++ b ∷ after) WeirdServerReply
before_invalid s b after small full never = (
  never_no_head s (b ∷ after) never,
  record {
    front = s;
    after = b ∷ after;
    is_prefix = refl;
    cause = never_head;
    meets = never;
    code_is = refl;
    first = first;
  },
)
  where
    first : (q more : List ℕ) (other : HeadCause) → s ++ b ∷ after ≡ q ++ more → MeetsAtHead q other → head_code other ≢ WeirdServerReply
        → length q ≤ length s → (length q ≡ length s) × (2 < head_line other)
    first q more many_fields e m ne le =
        let same = past_here (s ++ b ∷ after) s (b ∷ after) refl full (many_is_past (s ++ b ∷ after) q more e m) in
        absurd (omega (arith, ap length same, ap length m.2, length-append m.0 (m.1 ∷ [])))
    first q more never_head e m ne le = absurd (ne refl)
    first q more long_head e m ne le = absurd (omega (arith, m.0))

pub before_partial : (s : List ℕ) (b : ℕ) (after : List ℕ) → b ≢ 13 → b ≢ 10 → IsFull s → MayBecomeResponse s
    → HasNoHead (s ++ b ∷ after) × ComesFirst head_code head_line MeetsAtHead (s ++ b ∷ after) TooLarge
before_partial s b after not_return not_feed full may = (
  λ h rest reads. head_meets_nothing (s ++ b ∷ after) h rest reads (s ++ b ∷ []) after many_fields split many,
  record {
    front = s ++ b ∷ [];
    after = after;
    is_prefix = split;
    cause = many_fields;
    meets = many;
    code_is = refl;
    first = first;
  },
)
  where
    all : HasAllFields s
    all = full_has_all s may.0 may.1 may.2 full

    many : HasManyFields (s ++ b ∷ [])
    many = (s, b, refl, not_return, not_feed, all)

    split : s ++ b ∷ after ≡ (s ++ b ∷ []) ++ after
    split = sym (append_assoc s (b ∷ []) after)

    first : (q more : List ℕ) (other : HeadCause) → s ++ b ∷ after ≡ q ++ more → MeetsAtHead q other → head_code other ≢ TooLarge
        → length q ≤ length (s ++ b ∷ []) → (length q ≡ length (s ++ b ∷ [])) × (1 < head_line other)
    first q more many_fields e m ne le = absurd (ne refl)
    first q more never_head e m ne le =
        elim (cases_lt (length s) (length q)) [
          | inl longer ↦ (omega (arith, length-append s (b ∷ [])), omega arith)
          | inr within ↦
              let r = front_of q s more (b ∷ after) (sym e) within in
              absurd (m (r.0 ++ crlf_bytes) all.0 [] (all.1.0, sym (append_assoc q r.0 crlf_bytes) ∙ sym (ap (λ (t : List ℕ). t ++ crlf_bytes) r.1) ∙ all.1.1))
        ]
    first q more long_head e m ne le = absurd (ne refl)

pub before_overfull : (s : List ℕ) → IsFull s → ResponseExceeds 128 s → ⊥
before_overfull s full x =
    let past = exceeds_past s x in
    let same = past_here s s [] (sym (append-nil s)) full past in
    omega (arith, ap length same, ap length past.is, length-append past.front (past.next ∷ past.after))

-- ---- the bytes that are looked at

pub widen : (input : List ℕ) (r : HeadStep) → IsStepOn (take 65536 input) r → (r ≡ step.More → length (take 65536 input) < 65536) → IsStepOn input r
widen input (step.Head x) s short =
    let h = s.0 in let rest = s.1 in let reads = s.2 in let d = s.3 in (
      h,
      rest ++ drop 65536 input,
      (reads.0, sym (take-append-drop 65536 input) ∙ ap (λ (t : List ℕ). t ++ drop 65536 input) reads.1 ∙ append_assoc (print_response h) rest (drop 65536 input)),
      d,
    )
widen input step.More s short =
    let few : length (take 65536 input) < 65536 = short refl in
    subst (λ (t : List ℕ). HasNoHead t × MeetsNothing MeetsAtHead t) (take_all 65536 input (omega (arith, few, length-take 65536 input))) s
widen input (step.Fault code) s short = (
  none,
  record {
    front = s.1.front;
    after = s.1.after ++ drop 65536 input;
    is_prefix = whole ∙ ap (λ (t : List ℕ). t ++ drop 65536 input) s.1.is_prefix ∙ append_assoc s.1.front s.1.after (drop 65536 input);
    cause = s.1.cause;
    meets = s.1.meets;
    code_is = s.1.code_is;
    first = λ q more other e m ne le.
        let small : length q ≤ length (take 65536 input) = omega (arith, le, ap length s.1.is_prefix, length-append s.1.front s.1.after) in
        let r = front_of q (take 65536 input) more (drop 65536 input) (sym e ∙ whole) small in
        s.1.first q r.0 other r.1 m ne le;
  },
)
  where
    whole : input ≡ take 65536 input ++ drop 65536 input
    whole = sym (take-append-drop 65536 input)

    none : HasNoHead input
    none h rest reads =
        let small : length (print_response h) ≤ length (take 65536 input) =
        omega (arith, reads.0.bytes, length-take 65536 input, ap length reads.1, length-append (print_response h) rest) in
        let r = front_of (print_response h) (take 65536 input) rest (drop 65536 input) (sym reads.1 ∙ whole) small in
        s.0 h r.0 (reads.0, r.1)
