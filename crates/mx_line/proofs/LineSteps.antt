-- One more answer of a link that serves keeps what is known of it.
use Rattle.std.proofs.Common.{◌≡◌, ◌≢◌, ℕ, ◌+◌, ◌-◌, ◌≤◌, ◌<◌, Bool, true, false, List, [], ◌∷◌, ◌++◌, length, take, drop, refl, sym, ◌∙◌, ap, append_assoc, append-nil, arith, length-drop, length-append}
use Rattle.std.specs.Prelude.{◌||◌}
use Rattle.std.specs.List.{list_any}
use Rattle.std.proofs.lemmas.List.{take-append-drop, drop-drop, length-take-le}
use Rattle.std.proofs.Math.Seq.{drop-length}
use Rattle.mx_request.specs.Request.{RequestValue}
use Rattle.mx_link.specs.Answers.{taken, taken_by, is_read}
use Rattle.mx_link.specs.Calls.{connect_answer, read_answer, write_answer, IsReadWithin, IsWriteWithin}
use Rattle.mx_link.specs.declared.answers.Answer.{Answer}
use Rattle.mx_link.specs.declared.answers.Answer.TheVariants as said
use Rattle.mx_link.specs.declared.answers.Connect.{Connect}
use Rattle.mx_link.specs.declared.answers.Connect.TheVariants as connect
use Rattle.mx_link.specs.declared.answers.Read.{Read}
use Rattle.mx_link.specs.declared.answers.Read.TheVariants as read
use Rattle.mx_link.specs.declared.answers.Write.{Write}
use Rattle.mx_link.specs.declared.answers.Write.TheVariants as write
use Rattle.mx_line.specs.Order.{MayFollow, MayRead, stands, is_connected, is_last, most_read, asked_at, asks_of}
use Rattle.mx_line.specs.Calls.{taken_count}
use Rattle.mx_line.specs.Lines.{LineState, IsLine}
use Rattle.mx_line.proofs.Ordered.{taken-push, taken-same, any-push, any-same, FollowInOrder-push, asked_from-push}

or_none : (a b c : Bool) → (a || b) ≡ false → (a || (b || c)) ≡ c
or_none true b c e = let x : true ≡ false = e in cc
or_none false true c e = let x : true ≡ false = e in cc
or_none false false c e = refl

connect_takes : (k : Connect) → taken_by (connect_answer k) ≡ []
connect_takes connect.Done = refl
connect_takes connect.WouldBlock = refl
connect_takes connect.Fault = refl

connect_asks : (bytes : List ℕ) (past : List Answer) (k : Connect) → asked_at bytes past (connect_answer k) ≡ 0
connect_asks bytes past connect.Done = refl
connect_asks bytes past connect.WouldBlock = refl
connect_asks bytes past connect.Fault = refl

connect_may : (reused : Bool) (bytes : List ℕ) (past : List Answer) (k : Connect) → stands reused past ≡ false → MayFollow reused bytes past (connect_answer k)
connect_may reused bytes past connect.Done e = e
connect_may reused bytes past connect.WouldBlock e = e
connect_may reused bytes past connect.Fault e = e

write_asks : (bytes rest : List ℕ) (past : List Answer) (k : Write) → asked_at bytes past (write_answer k rest) ≡ length bytes - length (taken past)
write_asks bytes rest past (write.Bytes n) = refl
write_asks bytes rest past write.WouldBlock = refl
write_asks bytes rest past write.Fault = refl

write_unconnected : (rest : List ℕ) (k : Write) → is_connected (write_answer k rest) ≡ false
write_unconnected rest (write.Bytes n) = refl
write_unconnected rest write.WouldBlock = refl
write_unconnected rest write.Fault = refl

write_may : (reused : Bool) (bytes rest : List ℕ) (past : List Answer) (k : Write) → stands reused past ≡ true → bytes ≡ taken past ++ rest → rest ≢ []
    → MayFollow reused bytes past (write_answer k rest)
write_may reused bytes rest past (write.Bytes n) st cut some = (
  st,
  (
    drop n rest,
    cut ∙ ap (λ (l : List ℕ). taken past ++ l) (sym (take-append-drop n rest)),
    (λ e. some (sym (take-append-drop n rest) ∙ e)),
  ),
)
write_may reused bytes rest past write.WouldBlock st cut some = (st, (rest, cut, some))
write_may reused bytes rest past write.Fault st cut some = (st, (rest, cut, some))

pub write_fits : (k : Write) (len : ℕ) → IsWriteWithin k len → taken_count k ≤ len
write_fits (write.Bytes n) len w = w.1
write_fits write.WouldBlock len w = omega arith
write_fits write.Fault len w = omega arith

write_sent : (bytes : List ℕ) (past : List Answer) (w : ℕ) (k : Write) → bytes ≡ taken past ++ drop w bytes
    → bytes ≡ taken (past ++ write_answer k (drop w bytes) ∷ []) ++ drop (w + taken_count k) bytes
write_sent bytes past w (write.Bytes n) sent =
    let rest = drop w bytes in
    let piece = take n rest in
    let cut : rest ≡ piece ++ drop (w + n) bytes = sym (take-append-drop n rest) ∙ ap (λ (l : List ℕ). piece ++ l) (drop-drop n w bytes) in
    sent ∙ ap (λ (l : List ℕ). taken past ++ l) cut ∙ sym (append_assoc (taken past) piece (drop (w + n) bytes))
    ∙ ap (λ (l : List ℕ). l ++ drop (w + n) bytes) (sym (taken-push past (said.Took piece)))
write_sent bytes past w write.WouldBlock sent =
    sent ∙ ap (λ (l : List ℕ). l ++ drop w bytes) (sym (taken-same past said.WriteBlocked refl)) ∙ ap (λ (n : ℕ). taken (past ++ said.WriteBlocked ∷ []) ++ drop n bytes) (omega arith)
write_sent bytes past w write.Fault sent =
    sent ∙ ap (λ (l : List ℕ). l ++ drop w bytes) (sym (taken-same past said.WriteFailed refl)) ∙ ap (λ (n : ℕ). taken (past ++ said.WriteFailed ∷ []) ++ drop n bytes) (omega arith)

read_asks : (bytes buffer : List ℕ) (past : List Answer) (k : Read) → asked_at bytes past (read_answer k buffer) ≡ most_read
read_asks bytes buffer past (read.Bytes n) = refl
read_asks bytes buffer past read.WouldBlock = refl
read_asks bytes buffer past read.End = refl
read_asks bytes buffer past read.Fault = refl

read_unconnected : (buffer : List ℕ) (k : Read) → is_connected (read_answer k buffer) ≡ false
read_unconnected buffer (read.Bytes n) = refl
read_unconnected buffer read.WouldBlock = refl
read_unconnected buffer read.End = refl
read_unconnected buffer read.Fault = refl

read_takes : (buffer : List ℕ) (k : Read) → taken_by (read_answer k buffer) ≡ []
read_takes buffer (read.Bytes n) = refl
read_takes buffer read.WouldBlock = refl
read_takes buffer read.End = refl
read_takes buffer read.Fault = refl

pub read_reads : (buffer : List ℕ) (k : Read) → is_read (read_answer k buffer) ≡ true
read_reads buffer (read.Bytes n) = refl
read_reads buffer read.WouldBlock = refl
read_reads buffer read.End = refl
read_reads buffer read.Fault = refl

read_may : (reused : Bool) (bytes buffer : List ℕ) (past : List Answer) (k : Read) → MayRead reused bytes past → IsReadWithin k (length buffer) → length buffer ≡ most_read
    → MayFollow reused bytes past (read_answer k buffer)
read_may reused bytes buffer past (read.Bytes n) may within room =
    let long : length (take n buffer) ≡ n = length-take-le n buffer within.1 in
    (may, omega (arith, long, within.0), omega (arith, long, within.1, room))
read_may reused bytes buffer past read.WouldBlock may within room = may
read_may reused bytes buffer past read.End may within room = may
read_may reused bytes buffer past read.Fault may within room = may

module _ {L : Type 0} (history : L → List Answer) (asked : L → List ℕ) (token_of : L → ℕ) where
  abbrev state : RequestValue → L → L → List Answer → Bool → Bool → Bool → Bool → ℕ → LineState L
  state rq link att past reused probe stale stood w = record {
    request = rq;
    link = link;
    attached = att;
    answers = past;
    is_reused = reused;
    needs_probe = probe;
    is_stale = stale;
    stands = stood;
    written = w;
  }

  pub Line-begun : (rq : RequestValue) (link : L) (reused : Bool) → IsLine history asked token_of (state rq link link [] reused reused false reused 0)
  Line-begun rq link reused = record {
    told = sym (append-nil (history link));
    token = refl;
    unprobed = λ e. (e, refl);
    serving = λ e. record {
      order = tt;
      asked_for = sym (append-nil (asked link));
      stood = elim reused as (λ b. b ≡ (b || false)) [ true ↦ refl | false ↦ refl ];
      sent = refl;
      fits = omega arith;
    };
  }

  module _ (rq : RequestValue) (was next att : L) (past new : List Answer) (reused probe stale stood now : Bool) (w n : ℕ)
      (l : IsLine history asked token_of (state rq was att past reused probe stale stood w)) (a : Answer) (len : ℕ)
      (told : history next ≡ history was ++ a ∷ []) (wanted : asked next ≡ asked was ++ len ∷ []) (token : token_of next ≡ token_of was) (noted : new ≡ past ++ a ∷ []) where
    told' : history next ≡ history att ++ new
    told' = told ∙ ap (λ (h : List Answer). h ++ a ∷ []) l.told ∙ append_assoc (history att) past (a ∷ []) ∙ ap (λ (p : List Answer). history att ++ p) (sym noted)

    -- a link that isn't asked any more
    pub Line-stale : IsLine history asked token_of (state rq next att new reused false true now n)
    Line-stale = record {
      told = told';
      token = token ∙ l.token;
      unprobed = λ e. let x : false ≡ true = e in cc;
      serving = λ e. let x : true ≡ false = e in cc;
    }

    pub Line-grown : probe ≡ false → stale ≡ false → list_any is_last past ≡ false → MayFollow reused rq.bytes past a → asked_at rq.bytes past a ≡ len
        → now ≡ stands reused (past ++ a ∷ []) → rq.bytes ≡ taken (past ++ a ∷ []) ++ drop n rq.bytes → n ≤ length rq.bytes
        → IsLine history asked token_of (state rq next att new reused probe stale now n)
    Line-grown probed fresh lasts may wants st cut fits =
        let s = l.serving fresh in
        record {
          told = told';
          token = token ∙ l.token;
          unprobed = λ e. let x : true ≡ false = sym e ∙ probed in cc;
          serving = λ e. record {
            order = rw noted (FollowInOrder-push reused rq.bytes [] past a s.order lasts may);
            asked_for = wanted ∙ ap (λ (h : List ℕ). h ++ len ∷ []) s.asked_for ∙ append_assoc (asked att) (asks_of rq.bytes past) (len ∷ [])
                ∙ ap (λ (p : List ℕ). asked att ++ p) (ap (λ (k : ℕ). asks_of rq.bytes past ++ k ∷ []) (sym wants) ∙ sym (asked_from-push rq.bytes [] past a) ∙ ap (λ (p : List Answer). asks_of rq.bytes p) (sym noted));
            stood = st ∙ ap (λ (p : List Answer). stands reused p) (sym noted);
            sent = rw noted cut;
            fits = fits;
          };
        }

  -- a link that had nothing at its probe
  pub Line-probed : (rq : RequestValue) (was next att : L) (past : List Answer) (reused stale stood : Bool) (w : ℕ)
      → IsLine history asked token_of (state rq was att past reused true stale stood w) → stale ≡ false → IsLine history asked token_of (state rq next next past reused false stale stood w)
  Line-probed rq was next att past reused stale stood w l fresh =
      let s = l.serving fresh in
      let none : past ≡ [] = (l.unprobed refl).1 in
      record {
        told = sym (ap (λ (p : List Answer). history next ++ p) none ∙ append-nil (history next));
        token = refl;
        unprobed = λ e. let x : false ≡ true = e in cc;
        serving = λ e. record {
          order = s.order;
          asked_for = sym (ap (λ (p : List Answer). asked next ++ asks_of rq.bytes p) none ∙ append-nil (asked next));
          stood = s.stood;
          sent = s.sent;
          fits = s.fits;
        };
      }

  module _ (rq : RequestValue) (was next att : L) (past new : List Answer) (reused probe stale stood : Bool) (w : ℕ)
      (l : IsLine history asked token_of (state rq was att past reused probe stale stood w)) (probed : probe ≡ false) (fresh : stale ≡ false) (lasts : list_any is_last past ≡ false) where
    pub Line-connect : (k : Connect) → stood ≡ false
        → history next ≡ history was ++ connect_answer k ∷ [] → asked next ≡ asked was ++ 0 ∷ [] → token_of next ≡ token_of was → new ≡ past ++ connect_answer k ∷ []
        → IsLine history asked token_of (state rq next att new reused probe stale (is_connected (connect_answer k)) w)
    Line-connect k unmade told wanted token noted =
        let s = l.serving fresh in
        let a = connect_answer k in
        let none : stands reused past ≡ false = sym s.stood ∙ unmade in
        Line-grown rq was next att past new reused probe stale stood (is_connected a) w w l a 0 told wanted token noted probed fresh lasts
        (connect_may reused rq.bytes past k none)
        (connect_asks rq.bytes past k)
        (sym (ap (λ (b : Bool). reused || b) (any-push is_connected past a) ∙ or_none reused (list_any is_connected past) (is_connected a) none))
        (s.sent ∙ ap (λ (t : List ℕ). t ++ drop w rq.bytes) (sym (taken-same past a (connect_takes k))))
        s.fits

    pub Line-write : (k : Write) → stood ≡ true → w < length rq.bytes → IsWriteWithin k (length (drop w rq.bytes))
        → history next ≡ history was ++ write_answer k (drop w rq.bytes) ∷ [] → asked next ≡ asked was ++ length (drop w rq.bytes) ∷ [] → token_of next ≡ token_of was
        → new ≡ past ++ write_answer k (drop w rq.bytes) ∷ []
        → IsLine history asked token_of (state rq next att new reused probe stale stood (w + taken_count k))
    Line-write k made unsent within told wanted token noted =
        let s = l.serving fresh in
        let rest = drop w rq.bytes in
        let a = write_answer k rest in
        let left : length rest ≡ length rq.bytes - w = length-drop w rq.bytes in
        let some : rest ≢ [] = λ e. let none : length rest ≡ 0 = ap (λ (b : List ℕ). length b) e in omega (arith, left, none, unsent) in
        let count : length rq.bytes ≡ length (taken past) + length rest = ap (λ (b : List ℕ). length b) s.sent ∙ length-append (taken past) rest in
        Line-grown rq was next att past new reused probe stale stood stood w (w + taken_count k) l a (length rest) told wanted token noted probed fresh lasts
        (write_may reused rq.bytes rest past k (sym s.stood ∙ made) s.sent some)
        (write_asks rq.bytes rest past k ∙ omega (arith, count))
        (s.stood ∙ ap (λ (b : Bool). reused || b) (sym (any-same is_connected past a (write_unconnected rest k))))
        (write_sent rq.bytes past w k s.sent)
        (omega (arith, write_fits k (length rest) within, left, s.fits))

    pub Line-read : (k : Read) (buffer : List ℕ) → stood ≡ true → w ≡ length rq.bytes → length buffer ≡ most_read → IsReadWithin k (length buffer)
        → history next ≡ history was ++ read_answer k buffer ∷ [] → asked next ≡ asked was ++ length buffer ∷ [] → token_of next ≡ token_of was → new ≡ past ++ read_answer k buffer ∷ []
        → IsLine history asked token_of (state rq next att new reused probe stale stood w)
    Line-read k buffer made sent room within told wanted token noted =
        let s = l.serving fresh in
        let a = read_answer k buffer in
        let all : taken past ≡ rq.bytes = sym (s.sent ∙ ap (λ (b : List ℕ). taken past ++ b) (ap (λ (i : ℕ). drop i rq.bytes) sent ∙ drop-length rq.bytes) ∙ append-nil (taken past)) in
        Line-grown rq was next att past new reused probe stale stood stood w w l a (length buffer) told wanted token noted probed fresh lasts
        (read_may reused rq.bytes buffer past k (sym s.stood ∙ made, all) within room)
        (read_asks rq.bytes buffer past k ∙ sym room)
        (s.stood ∙ ap (λ (b : Bool). reused || b) (sym (any-same is_connected past a (read_unconnected buffer k))))
        (s.sent ∙ ap (λ (t : List ℕ). t ++ drop w rq.bytes) (sym (taken-same past a (read_takes buffer k))))
        s.fits
