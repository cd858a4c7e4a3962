-- The result of an input, as it was decoded.
use Rattle.std.proofs.Common.{◌≡◌, ◌≢◌, ℕ, ◌+◌, Bool, true, false, List, [], ◌∷◌, ◌++◌, length, refl, sym, ap, subst, ◌∙◌, arith, append_assoc, append-nil, length-append}
use Rattle.std.specs.Prelude.{Option, Some, None, Result, Ok, Err, IfOk, OnErr}
use Rattle.std.specs.Io.KnownBytes.{Consumes}
use Rattle.std.proofs.KnownBytes.{Consumes-nil, Consumes-trans}
use Rattle.mx_types.specs.declared.method.Method.{Method}
use Rattle.mx_body.specs.declared.verdict.Verdict.{Verdict}
use Rattle.mx_body.specs.declared.verdict.Verdict.TheVariants.{Complete, More, Fault}
use Rattle.mx_body.specs.Decision.{IsVerdict}
use Rattle.mx_body.specs.Decoder.{Decoded, IsExact}
use Rattle.mx_body.specs.Laws.{FaultStaysSame, CompleteStaysSame}
use Rattle.mx_run_local.specs.Reading.{WasFed, WasRead, IsReceived, IsRead}
use Rattle.mx_run_local.specs.declared.reading.Received.{Received}

-- a piece that is fed
pub was_fed_more : (old new : Decoded) (bytes piece : List ℕ) → WasFed old bytes → IsExact new
    → (old.verdict ≢ More → new ≡ old)
    → (old.verdict ≡ More → new ≡ record old { wire = old.wire ++ piece; verdict = new.verdict })
    → WasFed new (bytes ++ piece)
was_fed_more old new bytes piece fed exact over more = go old.verdict refl
  where
    goes_on : old.verdict ≡ More → WasFed new (bytes ++ piece)
    goes_on is =
        let all : bytes ≡ old.wire = fed.whole ∙ ap (λ (t : List ℕ). old.wire ++ t) (fed.undecided is) ∙ append-nil old.wire in
        let same = more is in
        record {
          behind = [];
          whole = ap (λ (t : List ℕ). t ++ piece) all ∙ sym (ap (λ (d : Decoded). d.wire) same) ∙ sym (append-nil new.wire);
          undecided = λ e. refl;
          running = ap (λ (d : Decoded). d.ended) same ∙ fed.running;
          exact = exact;
        }

    stays : old.verdict ≢ More → WasFed new (bytes ++ piece)
    stays decided =
        let same = over decided in
        record {
          behind = fed.behind ++ piece;
          whole = ap (λ (t : List ℕ). t ++ piece) fed.whole ∙ append_assoc old.wire fed.behind piece ∙ ap (λ (d : Decoded). d.wire ++ (fed.behind ++ piece)) (sym same);
          undecided = λ e. absurd (decided (sym (ap (λ (d : Decoded). d.verdict) same) ∙ e));
          running = ap (λ (d : Decoded). d.ended) same ∙ fed.running;
          exact = exact;
        }

    go : (v : Verdict) → old.verdict ≡ v → WasFed new (bytes ++ piece)
    go (Complete status len parts keep) is = stays (λ e. let both = sym is ∙ e in cc)
    go More is = goes_on is
    go (Fault code) is = stays (λ e. let both = sym is ∙ e in cc)

-- what a decoder has decided stays, whatever follows
later_verdict : (m : Method) (wire behind : List ℕ) (v : Verdict) → FaultStaysSame → CompleteStaysSame → v ≢ More
    → IsVerdict m wire false v → IsVerdict m (wire ++ behind) true v
later_verdict m wire behind (Complete status len parts keep) faults completes decided is =
    completes m wire behind true (Complete status len parts keep) tt is
later_verdict m wire behind More faults completes decided is = absurd (decided refl)
later_verdict m wire behind (Fault code) faults completes decided is = faults m wire behind true code is

-- what is decided where no more is fed
pub record IsSettled (old new : Decoded) (bytes : List ℕ) : Type 0 where
  pub behind : List ℕ
  pub whole : bytes ≡ new.wire ++ behind
  pub decided : IsVerdict old.method bytes true new.verdict
  pub method : new.method ≡ old.method
  pub ended : new.ended ≡ true → behind ≡ []

pub was_settled : (old new : Decoded) (bytes : List ℕ) → WasFed old bytes → IsExact new
    → (old.verdict ≢ More → new ≡ old)
    → (old.verdict ≡ More → new ≡ record old { ended = true; verdict = new.verdict })
    → FaultStaysSame → CompleteStaysSame → IsSettled old new bytes
was_settled old new bytes fed exact over ends faults completes = go old.verdict refl
  where
    at_end : old.verdict ≡ More → IsSettled old new bytes
    at_end is =
        let all : bytes ≡ old.wire = fed.whole ∙ ap (λ (t : List ℕ). old.wire ++ t) (fed.undecided is) ∙ append-nil old.wire in
        let same = ends is in
        let wire : new.wire ≡ bytes = ap (λ (d : Decoded). d.wire) same ∙ sym all in
        let method : new.method ≡ old.method = ap (λ (d : Decoded). d.method) same in
        let one = subst (λ (t : List ℕ). IsVerdict new.method t new.ended new.verdict) wire exact in
        let two = subst (λ (b : Bool). IsVerdict new.method bytes b new.verdict) (ap (λ (d : Decoded). d.ended) same) one in
        record {
          behind = [];
          whole = sym wire ∙ sym (append-nil new.wire);
          decided = subst (λ (m : Method). IsVerdict m bytes true new.verdict) method two;
          method = method;
          ended = λ e. refl;
        }

    before : old.verdict ≢ More → IsSettled old new bytes
    before decided =
        let same = over decided in
        let one = subst (λ (b : Bool). IsVerdict old.method old.wire b old.verdict) fed.running fed.exact in
        let two = later_verdict old.method old.wire fed.behind old.verdict faults completes decided one in
        let three = subst (λ (t : List ℕ). IsVerdict old.method t true old.verdict) (sym fed.whole) two in
        record {
          behind = fed.behind;
          whole = fed.whole ∙ ap (λ (d : Decoded). d.wire ++ fed.behind) (sym same);
          decided = subst (λ (d : Decoded). IsVerdict old.method bytes true d.verdict) (sym same) three;
          method = ap (λ (d : Decoded). d.method) same;
          ended = λ e. let both : true ≡ false = sym e ∙ ap (λ (d : Decoded). d.ended) same ∙ fed.running in absurd (cc);
        }

    go : (v : Verdict) → old.verdict ≡ v → IsSettled old new bytes
    go (Complete status len parts keep) is = before (λ e. let both = sym is ∙ e in cc)
    go More is = at_end is
    go (Fault code) is = before (λ e. let both = sym is ∙ e in cc)

-- Reading so far: what was read, and that it was fed.
pub record IsReading (known left : Option (List ℕ)) (d : Decoded) (m : Method) (count : ℕ) : Type 0 where
  pub bytes : List ℕ
  pub given : Consumes known left bytes
  pub fed : WasFed d bytes
  pub method : d.method ≡ m
  pub counted : count ≡ length bytes

-- it goes on with a read whose bytes are fed
pub reads_on : (known mid left : Option (List ℕ)) (old new : Decoded) (m : Method) (count more : ℕ) (given piece : List ℕ)
    → IsReading known mid old m count → Consumes mid left given → piece ≡ given → more ≡ length given → IsExact new
    → (old.verdict ≢ More → new ≡ old)
    → (old.verdict ≡ More → new ≡ record old { wire = old.wire ++ piece; verdict = new.verdict })
    → IsReading known left new m (count + more)
reads_on known mid left old new m count more given piece r gives same all exact over goes = record {
  bytes = r.bytes ++ piece;
  given = Consumes-trans known mid left r.bytes piece r.given (subst (Consumes mid left) (sym same) gives);
  fed = was_fed_more old new r.bytes piece r.fed exact over goes;
  method = method_of old.verdict refl;
  counted = omega (arith, r.counted, all, ap length same, length-append r.bytes piece);
}
  where
    method_of : (v : Verdict) → old.verdict ≡ v → new.method ≡ m
    method_of (Complete status len parts keep) is = ap (λ (d : Decoded). d.method) (over (λ e. let both = sym is ∙ e in cc)) ∙ r.method
    method_of More is = ap (λ (d : Decoded). d.method) (goes is) ∙ r.method
    method_of (Fault code) is = ap (λ (d : Decoded). d.method) (over (λ e. let both = sym is ∙ e in cc)) ∙ r.method

-- what was decided is what was read
pub read_is : {E : Type 0} (m : Method) (known left : Option (List ℕ)) (d : Decoded) (count : ℕ) (bytes : List ℕ) (result : Result Received E)
    → WasRead known left bytes → WasFed d bytes → d.method ≡ m → count ≡ length bytes
    → IfOk result (λ r. (bs : List ℕ) → WasFed d bs → length bs ≡ count → IsReceived d.method bs r)
    → IfOk result (IsRead m known left)
read_is m known left d count bytes (Ok r) read fed method all decided = record {
  bytes = bytes;
  read = read;
  received = subst (λ (k : Method). IsReceived k bytes r) method (decided bytes fed (sym all));
}
read_is m known left d count bytes (Err e) read fed method all decided = tt

-- a prefix of nothing is nothing
pub front_none : (xs ys : List ℕ) → [] ≡ xs ++ ys → xs ≡ []
front_none [] ys e = refl
front_none (x ∷ xs) ys e = cc

-- something was read
pub some_read : (known left : Option (List ℕ)) (bytes : List ℕ) → Consumes known left bytes → bytes ≢ [] → known ≢ Some []
some_read None left bytes front some = λ e. cc
some_read (Some (x ∷ xs)) left bytes front some = λ e. cc
some_read (Some []) None bytes front some = absurd front
some_read (Some []) (Some ys) [] front some = absurd (some refl)
some_read (Some []) (Some ys) (b ∷ bytes) front some = λ e. cc

pub on_error : {T E : Type 0} {P : Type 0} (result : Result T E) (e : E) → OnErr result P → result ≡ Err e → P
on_error (Ok x) e holds is = cc
on_error (Err d) e holds is = holds

-- nothing was read
pub reading_begins : (known : Option (List ℕ)) (d : Decoded) (m : Method) → d ≡ record { method = m; wire = []; ended = false; verdict = More } → IsExact d
    → IsReading known known d m 0
reading_begins known d m is exact = record {
  bytes = [];
  given = Consumes-nil known;
  fed = record {
    behind = [];
    whole = sym (ap (λ (x : Decoded). x.wire ++ []) is);
    undecided = λ e. refl;
    running = ap (λ (x : Decoded). x.ended) is;
    exact = exact;
  };
  method = ap (λ (x : Decoded). x.method) is;
  counted = refl;
}

pub if_ok : {T E : Type 0} {P : Type 0} (result : Result T E) (x : T) → result ≡ Ok x → IfOk result (λ _. P) → P
if_ok (Ok y) x is holds = holds
if_ok (Err e) x is holds = cc
