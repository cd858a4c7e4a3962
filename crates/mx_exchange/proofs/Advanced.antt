-- What one poll does, by the way it ends.
use Rattle.std.proofs.Common.{◌≡◌, ℕ, ◌≤◌, Bool, true, false, List, [], ◌∷◌, ◌++◌, length, refl, sym, ◌∙◌, ap, subst, append_assoc, append-nil, length-append, Option, Some, None, ◌↔◌, ◌⊎◌, inl, inr, arith}
use Rattle.std.specs.Prelude.{IfSome, count_by}
use Rattle.std.proofs.lemmas.Grind.{flat_map-append}
use Rattle.mx_types.specs.declared.code.Code.{Code}
use Rattle.mx_types.specs.declared.code.Code.TheVariants as code
use Rattle.mx_types.specs.declared.method.Method.{Method}
use Rattle.mx_request.specs.Request.{RequestValue}
use Rattle.mx_body.specs.Decision.{HasStatus}
use Rattle.mx_body.specs.Decoder.{is_verdict_code, HasVerdictCode}
use Rattle.mx_body.specs.declared.decoder.Stand.{Stand}
use Rattle.mx_body.specs.declared.decoder.Stand.TheVariants as stand
use Rattle.mx_reader.specs.Judgements.{Judgement, Judges}
use Rattle.mx_reader.specs.Readers.{ReaderValue, may_keep}
use Rattle.mx_reader.proofs.CodeLemmas.{codes_are_listed}
use Rattle.mx_link.specs.Answers.{given, given_by, is_read, is_write}
use Rattle.mx_link.specs.declared.answers.Answer.{Answer}
use Rattle.mx_link.specs.declared.answers.Answer.TheVariants as said
use Rattle.mx_line.specs.Order.{InOrder, most_turn_writes}
use Rattle.mx_line.specs.Endings.{EndsBy, by_bytes, by_end, by_fault, by_memory, MustRetry, code_of, fault_code, is_given_code}
use Rattle.mx_exchange.specs.Exchanges.{HopValue, ExchangeState, IsDue, KeepsToken, capped, clocked, dropped}
use Rattle.mx_exchange.specs.Turns.{How, waits, asks, ends, wire_by, MayTouch, Probed, most_turn_reads, Answered, GoesOn, EndsWith, StopsWith, Exchanged, unserved, lost, blocked, unfinished, ended, Turns, late, given_up, paused, refused, turned}
use Rattle.mx_line.specs.Lines.{HandsOver, LineState, ServesTo}
use Rattle.mx_line.specs.declared.calls.Halt.{Halt}
use Rattle.mx_line.specs.declared.calls.Halt.TheVariants as halt

no_fault : (a : Answer) → fault_code a ≡ Some code.OperationTimedout → ⊥
no_fault said.Connected e = cc
no_fault said.ConnectBlocked e = cc
no_fault said.ConnectFailed e = cc
no_fault (said.Gave piece) e = cc
no_fault said.ReadBlocked e = cc
no_fault said.ReadEnded e = cc
no_fault said.ReadFailed e = cc
no_fault (said.Took piece) e = cc
no_fault said.WriteBlocked e = cc
no_fault said.WriteFailed e = cc

no_judgement : (limit : Option ℕ) (kind : Method) (wire : List ℕ) (e : Bool) (j : Judgement) → Judges limit kind wire e j → code_of j.stand ≡ Some code.OperationTimedout → ⊥
no_judgement limit kind wire e j h is = by_stand j.stand refl is where
  by_stand : (s : Stand) → j.stand ≡ s → code_of s ≡ Some code.OperationTimedout → ⊥
  by_stand stand.Complete at is = cc
  by_stand stand.More at is = cc
  by_stand (stand.Fault c) at is =
      let listed : is_verdict_code c ≡ true = subst HasVerdictCode at (codes_are_listed limit kind wire e j h) in
      let same : c ≡ code.OperationTimedout = (let k : Some c ≡ Some code.OperationTimedout = is in cc) in
      let x : is_verdict_code code.OperationTimedout ≡ true = ap is_verdict_code (sym same) ∙ listed in cc

-- nothing is handed on where the content stays
pub none_over : (was is out : List ℕ) → is ≡ was → HandsOver was is out out
none_over was is out same = record { added = []; grown = same ∙ sym (append-nil was); handed = sym (append-nil out) }

-- what is handed on, where it is this
pub over_to : (was is at before after : List ℕ) → at ≡ is → HandsOver was is before after → HandsOver was at before after
over_to was is at before after same h = record { added = h.added; grown = same ∙ h.grown; handed = h.handed }

pub over_from : (was is at before after : List ℕ) → at ≡ was → HandsOver at is before after → HandsOver was is before after
over_from was is at before after same h = record { added = h.added; grown = h.grown ∙ ap (λ (l : List ℕ). l ++ h.added) same; handed = h.handed }

-- nothing was where nothing is
pub none_added : (was is before after : List ℕ) → was ≡ [] → is ≡ [] → HandsOver was is before after → after ≡ before
none_added was is before after none nothing h =
    let empty : h.added ≡ [] = sym (ap (λ (l : List ℕ). l ++ h.added) none) ∙ sym h.grown ∙ nothing in
    h.handed ∙ ap (λ (l : List ℕ). before ++ l) empty ∙ append-nil before

module _ {L : Type 0} (history : L → List Answer) where
  module _ (old new : ExchangeState L) (line next : LineState L) (d : ReaderValue) (how : Halt)
      (had : old.link ≡ Some line.link) (answers : old.answers ≡ line.answers) (again : line.is_reused ≡ old.is_reused) (about : line.request ≡ old.request)
      (was : history line.link ≡ history line.attached ++ line.answers) (is : history next.link ≡ history next.attached ++ next.answers) (most : ℕ) (fits : most ≡ most_turn_reads old.limit) (t : ServesTo most line next how d) where
    grown : next.answers ≡ old.answers ++ t.more
    grown = ap (λ (l : LineState L). l.answers) t.grows ∙ ap (λ (l : List Answer). l ++ t.more) (sym answers)

    told : history next.link ≡ history line.link ++ t.more
    told =
        is
        ∙ ap (λ (l : L). history l ++ next.answers) (ap (λ (l : LineState L). l.attached) t.grows)
        ∙ ap (λ (l : List Answer). history line.attached ++ l) (ap (λ (l : LineState L). l.answers) t.grows)
        ∙ sym (append_assoc (history line.attached) line.answers t.more)
        ∙ ap (λ (l : List Answer). l ++ t.more) (sym was)

    abbrev answered : (last : ExchangeState L) → last.link ≡ Some next.link → last.answers ≡ next.answers → Answered history old last
    answered last has same = record {
      more = t.more;
      noted = same ∙ grown;
      asked = t.asked;
      told = rw (had, has) told;
      served = λ e. let x : Some line.link ≡ None = sym had ∙ e in cc;
      connects = t.connects;
      reads = subst (λ (n : ℕ). count_by is_read t.more ≤ n) fits t.reads;
      writes = t.writes;
    }

    same_reused : next.is_reused ≡ old.is_reused
    same_reused = ap (λ (l : LineState L). l.is_reused) t.grows ∙ again

    retried : MustRetry line.request.method line.is_reused next.answers → MustRetry old.request.method old.is_reused next.answers
    retried m = subst (λ (b : Bool). MustRetry old.request.method b next.answers) again (subst (λ (r : RequestValue). MustRetry r.method line.is_reused next.answers) about m)

    unretried : ¬ (MustRetry line.request.method line.is_reused next.answers) → ¬ (MustRetry old.request.method old.is_reused next.answers)
    unretried never m = never (subst (λ (b : Bool). MustRetry line.request.method b next.answers) (sym again) (subst (λ (r : RequestValue). MustRetry r.method old.is_reused next.answers) (sym about) m))

    -- as it goes on with this link and this reader
    abbrev onward : ExchangeState L
    onward = record old { link = Some next.link; answers = next.answers; received = capped (length d.wire); content = d.judgement.content }

    goes : new ≡ onward → d.wire ≡ given next.answers → GoesOn old new
    goes e f =
        let link : new.link ≡ Some next.link = ap (λ (x : ExchangeState L). x.link) e in
        let all : new.answers ≡ next.answers = ap (λ (x : ExchangeState L). x.answers) e in
        let content : new.content ≡ d.judgement.content = ap (λ (x : ExchangeState L). x.content) e in
        e
        ∙ ap (λ (n : ℕ). record old { link = Some next.link; answers = next.answers; received = n; content = d.judgement.content }) (ap (λ (l : List ℕ). capped (length l)) f)
        ∙ ap (λ (x : Option L). record old { link = x; answers = next.answers; received = capped (length (given next.answers)); content = d.judgement.content }) (sym link)
        ∙ ap (λ (l : List Answer). record old { link = new.link; answers = l; received = capped (length (given l)); content = d.judgement.content }) (sym all)
        ∙ ap (λ (l : List ℕ). record old { link = new.link; answers = new.answers; received = capped (length (given new.answers)); content = l }) (sym content)

    pub Exchange-blocked : how ≡ halt.Blocked → new ≡ onward → Exchanged history old new waits
    Exchange-blocked e same =
        let so = rw e at t.so in
        let link : new.link ≡ Some next.link = ap (λ (x : ExchangeState L). x.link) same in
        let all : new.answers ≡ next.answers = ap (λ (x : ExchangeState L). x.answers) same in
        blocked (answered new link all) so.1 (goes same so.0.wire)

    pub Exchange-unfinished : how ≡ halt.Unfinished → new ≡ onward → Exchanged history old new asks
    Exchange-unfinished e same =
        let so = rw e at t.so in
        let link : new.link ≡ Some next.link = ap (λ (x : ExchangeState L). x.link) same in
        let all : new.answers ≡ next.answers = ap (λ (x : ExchangeState L). x.answers) same in
        let full : (count_by is_read t.more ≡ most_turn_reads old.limit) ⊎ (count_by is_write t.more ≡ most_turn_writes) =
        subst (λ (n : ℕ). (count_by is_read t.more ≡ n) ⊎ (count_by is_write t.more ≡ most_turn_writes)) fits so.1 in
        unfinished (answered new link all) full (goes same so.0.wire)

    pub Exchange-lost : how ≡ halt.Lost → InOrder next.is_reused next.request.bytes next.answers → new ≡ dropped old → Exchanged history old new waits
    Exchange-lost e order same =
        let last : ExchangeState L = record old { link = Some next.link; answers = next.answers } in
        let so = rw e at t.so in
        let bytes : next.request ≡ old.request = ap (λ (l : LineState L). l.request) t.grows ∙ about in
        lost last (answered last refl refl)
        (subst (λ (b : Bool). InOrder b old.request.bytes next.answers) same_reused (subst (λ (r : RequestValue). InOrder next.is_reused r.bytes next.answers) bytes order))
        (retried so.0) same

    pub Exchange-ended : (c : Code) (o : HopValue) → how ≡ halt.Over c → d.limit ≡ old.limit → o.request ≡ line.request → o.limit ≡ d.limit → o.wire ≡ d.wire → o.code ≡ c
        → HasStatus o.wire o.status → o.parts ≡ d.judgement.parts → o.content ≡ d.judgement.content
        → o.answers ≡ next.answers → o.is_reused ≡ next.is_reused → new.is_kept ≡ may_keep d.judgement d.wire
        → new ≡ record old { link = Some next.link; answers = next.answers; code = Some c; is_kept = new.is_kept; received = capped (length d.wire); content = [] } → Exchanged history old new (ends o)
    Exchange-ended c o e limit er el ew ec st ep eo ea eu kept same =
        let so = rw e at t.so in
        let link : new.link ≡ Some next.link = ap (λ (x : ExchangeState L). x.link) same in
        let all : new.answers ≡ next.answers = ap (λ (x : ExchangeState L). x.answers) same in
        let cause : EndsBy old.limit old.request.method new.answers o.wire d.judgement o.code =
        subst (λ (x : Code). EndsBy old.limit old.request.method new.answers o.wire d.judgement x) (sym ec)
        (subst (λ (l : List ℕ). EndsBy old.limit old.request.method new.answers l d.judgement c) (sym ew)
        (subst (λ (p : List Answer). EndsBy old.limit old.request.method p d.wire d.judgement c) (sym all)
        (subst (λ (n : Option ℕ). EndsBy n old.request.method next.answers d.wire d.judgement c) limit
        (subst (λ (r : RequestValue). EndsBy d.limit r.method next.answers d.wire d.judgement c) about so.cause)))) in
        let end : EndsWith old new o = record {
          request = er ∙ about;
          limit = el ∙ limit;
          status = st;
          answers = ea ∙ sym all;
          reused = eu ∙ same_reused;
          after =
              same
              ∙ ap (λ (x : Option L). record old { link = x; answers = next.answers; code = Some c; is_kept = new.is_kept; received = capped (length d.wire); content = [] }) (sym link)
              ∙ ap (λ (l : List Answer). record old { link = new.link; answers = l; code = Some c; is_kept = new.is_kept; received = capped (length d.wire); content = [] }) (sym all)
              ∙ ap (λ (x : Code). record old { link = new.link; answers = new.answers; code = Some x; is_kept = new.is_kept; received = capped (length d.wire); content = [] }) (sym ec)
              ∙ ap (λ (l : List ℕ). record old { link = new.link; answers = new.answers; code = Some o.code; is_kept = new.is_kept; received = capped (length l); content = [] }) (sym ew);
        } in
        ended (answered new link all)
        (record { ends = end; judgement = d.judgement; cause = cause; parts = ep; content = eo; kept = kept ∙ ap (λ (l : List ℕ). may_keep d.judgement l) (sym ew) })
        (rw all (unretried so.final))

  -- the request, the code and the limit are as they were
  abbrev Stays : ExchangeState L → ExchangeState L → Type 0
  Stays t new = (new.request ≡ t.request) × (new.code ≡ t.code) × (new.limit ≡ t.limit)

  -- so a probe leaves them, and a turn over the link that doesn't end the exchange
  probed_stays : (t mid : ExchangeState L) → Probed history t mid → Stays t mid
  probed_stays t mid (inl p) = rw p.1 (refl, refl, refl)
  probed_stays t mid (inr p) = rw p.after (refl, refl, refl)

  goes_stays : (t new : ExchangeState L) → GoesOn t new → Stays t new
  goes_stays t new g = (ap (λ (x : ExchangeState L). x.request) g, ap (λ (x : ExchangeState L). x.code) g, ap (λ (x : ExchangeState L). x.limit) g)

  waits_stays : (t new : ExchangeState L) → Exchanged history t new waits → Stays t new
  waits_stays t new (unserved none e) = rw e (refl, refl, refl)
  waits_stays t new (lost last a o r e) = rw e (refl, refl, refl)
  waits_stays t new (blocked a b g) = goes_stays t new g

  asks_stays : (t new : ExchangeState L) → Exchanged history t new asks → Stays t new
  asks_stays t new (unfinished a b g) = goes_stays t new g

  both_stay : (t mid new : ExchangeState L) → Stays t mid → Stays mid new → Stays t new
  both_stay t mid new a b = (b.0 ∙ a.0, b.1 ∙ a.1, b.2 ∙ a.2)

  module _ (old t new : ExchangeState L) (e : t ≡ clocked old) where
    clock : (how : How) → Turns history t new how → Turns history (clocked old) new how
    clock how h = subst (λ (x : ExchangeState L). Turns history x new how) e h

    pub Advance-late : (o : HopValue) → IsDue t.deadline t.moment → o.code ≡ code.OperationTimedout → StopsWith t new o → Turns history (clocked old) new (ends o)
    Advance-late o due is s = clock (ends o) (late due is s)

    pub Advance-given_up : (o : HopValue) (c : Code) → ¬ (IsDue t.deadline t.moment) → t.failure ≡ Some c → o.code ≡ c → StopsWith t new o → Turns history (clocked old) new (ends o)
    Advance-given_up o c early failed is s = clock (ends o) (given_up early (failed ∙ ap (λ (x : Code). Some x) (sym is)) s)

    pub Advance-paused : ¬ (IsDue t.deadline t.moment) → t.failure ≡ None → t.is_paused ≡ true → new ≡ t → Turns history (clocked old) new asks
    Advance-paused early failed still same = clock asks (paused (early, failed) still same)

    -- it ends with the code that comes before the link
    pub Advance-stopped : (o : HopValue) (c : Code) → (IsDue t.deadline t.moment × (c ≡ code.OperationTimedout)) ⊎ (¬ (IsDue t.deadline t.moment) × (t.failure ≡ Some c))
        → o.code ≡ c → StopsWith t new o → Turns history (clocked old) new (ends o)
    Advance-stopped o c (inl due) is s = Advance-late o due.0 (is ∙ due.1) s
    Advance-stopped o c (inr given) is s = Advance-given_up o c given.0 given.1 is s

    -- the same, of what was taken out
    pub Advance-taken : (o : HopValue) (c : Code) (at : ExchangeState L) → at ≡ t → (IsDue t.deadline t.moment × (c ≡ code.OperationTimedout)) ⊎ (¬ (IsDue t.deadline t.moment) × (t.failure ≡ Some c))
        → o.code ≡ c → StopsWith at new o → Turns history (clocked old) new (ends o)
    Advance-taken o c at same cause is s = Advance-stopped o c cause is (subst (λ (x : ExchangeState L). StopsWith x new o) same s)

    pub Advance-on : (how : How) → Turns history t new how → Turns history (clocked old) new how
    Advance-on how h = clock how h

  -- a turn that may touch the link, where there is none
  pub Touch-unserved : (t new : ExchangeState L) → MayTouch t → (t.link ≡ None) × (t.needs_probe ≡ false) → new ≡ t → Turns history t new waits
  Touch-unserved t new may none same = turned may t (inl (none.1, refl)) (unserved none.0 same)

  -- a hop is of the exchange's request
  pub Turns-request : (t new : ExchangeState L) (o : HopValue) → Turns history t new (ends o) → o.request ≡ t.request
  Turns-request t new o (late due is s) = s.ends.request
  Turns-request t new o (given_up early is s) = s.ends.request
  Turns-request t new o (turned m mid p (ended a e r)) = e.ends.request ∙ (probed_stays t mid p).0

  -- and of its limit, which stays
  pub Turns-hop_limit : (t new : ExchangeState L) (o : HopValue) → Turns history t new (ends o) → o.limit ≡ t.limit
  Turns-hop_limit t new o (late due is s) = s.ends.limit
  Turns-hop_limit t new o (given_up early is s) = s.ends.limit
  Turns-hop_limit t new o (turned m mid p (ended a e r)) = e.ends.limit ∙ (probed_stays t mid p).2

  exchanged_limit : (t new : ExchangeState L) (how : How) → Exchanged history t new how → new.limit ≡ t.limit
  exchanged_limit t new how (unserved none e) = ap (λ (x : ExchangeState L). x.limit) e
  exchanged_limit t new how (lost last a o r e) = ap (λ (x : ExchangeState L). x.limit) e
  exchanged_limit t new how (blocked a b g) = ap (λ (x : ExchangeState L). x.limit) g
  exchanged_limit t new how (unfinished a b g) = ap (λ (x : ExchangeState L). x.limit) g
  exchanged_limit t new how (ended a e r) = ap (λ (x : ExchangeState L). x.limit) e.ends.after

  pub Turns-limit : (t new : ExchangeState L) (how : How) → Turns history t new how → new.limit ≡ t.limit
  Turns-limit t new how (late due is s) = ap (λ (x : ExchangeState L). x.limit) s.ends.after
  Turns-limit t new how (given_up early is s) = ap (λ (x : ExchangeState L). x.limit) s.ends.after
  Turns-limit t new how (paused m still e) = ap (λ (x : ExchangeState L). x.limit) e
  Turns-limit t new how (refused m f) = ap (λ (x : ExchangeState L). x.limit) f.after
  Turns-limit t new how (turned m mid p x) = exchanged_limit mid new how x ∙ (probed_stays t mid p).2

  ending : {t new : ExchangeState L} {o : HopValue} → EndsWith t new o → (new.code ≡ Some o.code) × (new.received ≡ capped (length o.wire))
  ending e = (ap (λ (x : ExchangeState L). x.code) e.after, ap (λ (x : ExchangeState L). x.received) e.after)

  -- once it has ended, its code is the hop's, and the bytes received are the wire
  pub Turns-ended : (t new : ExchangeState L) (o : HopValue) → Turns history t new (ends o) → (new.code ≡ Some o.code) × (new.received ≡ capped (length o.wire))
  Turns-ended t new o (late due is s) = ending s.ends
  Turns-ended t new o (given_up early is s) = ending s.ends
  Turns-ended t new o (turned m mid p (ended a e r)) = ending e.ends

  -- an exchange that waits, or asks for another turn, is of the same request, and hasn't ended
  pub Turns-waits : (t new : ExchangeState L) → Turns history t new waits → Stays t new
  Turns-waits t new (refused m f) = rw f.after (refl, refl, refl)
  Turns-waits t new (turned m mid p x) = both_stay t mid new (probed_stays t mid p) (waits_stays mid new x)

  pub Turns-asks : (t new : ExchangeState L) → Turns history t new asks → Stays t new
  Turns-asks t new (paused m still e) = rw e (refl, refl, refl)
  Turns-asks t new (turned m mid p x) = both_stay t mid new (probed_stays t mid p) (asks_stays mid new x)

  -- no response, no fault of a link and no refusal of memory gives 28
  untimely : (limit : Option ℕ) (kind : Method) (past : List Answer) (wire : List ℕ) (j : Judgement) (c : Code) → EndsBy limit kind past wire j c → c ≡ code.OperationTimedout → ⊥
  untimely limit kind past wire j c (by_bytes earlier piece e w h is) t = no_judgement limit kind wire false j h (is ∙ ap (λ (x : Code). Some x) t)
  untimely limit kind past wire j c (by_end earlier e w h is) t = no_judgement limit kind wire true j h (is ∙ ap (λ (x : Code). Some x) t)
  untimely limit kind past wire j c (by_fault earlier last e w m is) t = no_fault last (is ∙ ap (λ (x : Code). Some x) t)
  untimely limit kind past wire j c (by_memory earlier last e h w m) t = cc

  -- 28 comes just where the deadline is due
  pub Turns-late : (t new : ExchangeState L) (o : HopValue) → IfSome t.failure (λ (c : Code). is_given_code c t.limit ≡ true) → Turns history t new (ends o) → (o.code ≡ code.OperationTimedout) ↔ IsDue t.deadline t.moment
  Turns-late t new o f (late due is s) = ((λ e. due), (λ d. is))
  Turns-late t new o f (given_up early is s) = (
    (λ e. let listed : is_given_code o.code t.limit ≡ true = rw is at f in
        let x : is_given_code code.OperationTimedout t.limit ≡ true = ap (λ (c : Code). is_given_code c t.limit) (sym e) ∙ listed in
        let bad : false ≡ true = x in
        cc),
    (λ d. absurd (early d)),
  )
  Turns-late t new o f (turned m mid p (ended a e r)) = ((λ c. absurd (untimely _ _ _ _ _ _ e.cause c)), (λ d. absurd (m.0.0 d)))

  -- the count never falls
  given-append : (past more : List Answer) → given (past ++ more) ≡ given past ++ given more
  given-append past more = flat_map-append given_by past more

  longer : (past more all : List Answer) → all ≡ past ++ more → length (given past) ≤ length (given all)
  longer past more all e = omega (arith, ap (λ (l : List Answer). length (given l)) e, ap (λ (l : List ℕ). length l) (given-append past more), length-append (given past) (given more))

  -- what came before the last answer has all that came before this turn
  before_last : (past more earlier : List Answer) (last : Answer) → (more ≡ [] → ⊥) → past ++ more ≡ earlier ++ last ∷ [] → (rest : List Answer) × (earlier ≡ past ++ rest)
  before_last [] more earlier last some e = (earlier, refl)
  before_last (x ∷ past) more [] last some e =
      let tail : past ++ more ≡ [] = (let k : x ∷ (past ++ more) ≡ last ∷ [] = e in cc) in absurd (some (none past more tail)) where
        none : (past more : List Answer) → past ++ more ≡ [] → more ≡ []
        none [] more e = e
        none (y ∷ past) more e = cc
  before_last (x ∷ past) more (y ∷ earlier) last some e =
      let head : x ≡ y = (let k : x ∷ (past ++ more) ≡ y ∷ (earlier ++ last ∷ []) = e in cc) in
      let tail : past ++ more ≡ earlier ++ last ∷ [] = (let k : x ∷ (past ++ more) ≡ y ∷ (earlier ++ last ∷ []) = e in cc) in
      let r = before_last past more earlier last some tail in
      (r.0, ap (λ (l : List Answer). y ∷ l) r.1 ∙ ap (λ (a : Answer). a ∷ (past ++ r.0)) (sym head))

  wire_holds : (limit : Option ℕ) (kind : Method) (past more answers : List Answer) (wire : List ℕ) (j : Judgement) (c : Code) → answers ≡ past ++ more → (more ≡ [] → ⊥) → EndsBy limit kind answers wire j c
      → length (given past) ≤ length wire
  wire_holds limit kind past more answers wire j c n some (by_bytes earlier piece e w h is) = rw w (longer past more answers n)
  wire_holds limit kind past more answers wire j c n some (by_end earlier e w h is) = rw w (longer past more answers n)
  wire_holds limit kind past more answers wire j c n some (by_fault earlier last e w m is) = rw w (longer past more answers n)
  wire_holds limit kind past more answers wire j c n some (by_memory earlier last e h w m) =
      let r = before_last past more earlier last some (sym n ∙ e.0) in rw w (longer past r.0 earlier r.1)

  -- the bytes go on from those before, or there were none
  abbrev pub GrowsFrom : List ℕ → List ℕ → Type 0
  GrowsFrom was is = ((rest : List ℕ) × (is ≡ was ++ rest)) ⊎ (was ≡ [])

  extends : (past more all : List Answer) → all ≡ past ++ more → (rest : List ℕ) × (given all ≡ given past ++ rest)
  extends past more all e = (given more, ap given e ∙ given-append past more)

  none_front : (xs ys : List ℕ) → xs ++ ys ≡ [] → xs ≡ []
  none_front [] ys e = refl
  none_front (x ∷ xs) ys e = cc

  wire_extends : (limit : Option ℕ) (kind : Method) (past more answers : List Answer) (wire : List ℕ) (j : Judgement) (c : Code) → answers ≡ past ++ more → (more ≡ [] → ⊥) → EndsBy limit kind answers wire j c
      → (rest : List ℕ) × (wire ≡ given past ++ rest)
  wire_extends limit kind past more answers wire j c n some (by_bytes earlier piece e w h is) = let x = extends past more answers n in (x.0, w ∙ x.1)
  wire_extends limit kind past more answers wire j c n some (by_end earlier e w h is) = let x = extends past more answers n in (x.0, w ∙ x.1)
  wire_extends limit kind past more answers wire j c n some (by_fault earlier last e w m is) = let x = extends past more answers n in (x.0, w ∙ x.1)
  wire_extends limit kind past more answers wire j c n some (by_memory earlier last e h w m) =
      let r = before_last past more earlier last some (sym n ∙ e.0) in
      let x = extends past r.0 earlier r.1 in
      (x.0, w ∙ x.1)

  exchanged_grows : (mid new : ExchangeState L) (how : How) → Exchanged history mid new how → GrowsFrom (given mid.answers) (wire_by new how)
  exchanged_grows mid new how (unserved none e) = inl ([], ap (λ (x : ExchangeState L). given x.answers) e ∙ sym (append-nil (given mid.answers)))
  exchanged_grows mid new how (lost last a o m e) =
      inr (none_front (given mid.answers) (given a.more) (sym (given-append mid.answers a.more) ∙ ap given (sym a.noted) ∙ m.silent))
  exchanged_grows mid new how (blocked a b g) = inl (extends mid.answers a.more new.answers a.noted)
  exchanged_grows mid new how (unfinished a b g) = inl (extends mid.answers a.more new.answers a.noted)
  exchanged_grows mid new how (ended {o} a e r) =
      inl (wire_extends mid.limit mid.request.method mid.answers a.more new.answers o.wire e.judgement o.code a.noted a.asked e.cause)

  pub Turns-grows : (t new : ExchangeState L) (how : How) → (t.needs_probe ≡ true → t.answers ≡ []) → Turns history t new how → GrowsFrom (given t.answers) (wire_by new how)
  Turns-grows t new how u (late due is s) = inl ([], s.wire ∙ sym (append-nil (given t.answers)))
  Turns-grows t new how u (given_up early is s) = inl ([], s.wire ∙ sym (append-nil (given t.answers)))
  Turns-grows t new how u (paused m still e) = inl ([], ap (λ (x : ExchangeState L). given x.answers) e ∙ sym (append-nil (given t.answers)))
  Turns-grows t new how u (refused m f) = inr (ap given (u f.needed))
  Turns-grows t new how u (turned m mid (inl p) x) = subst (λ (y : ExchangeState L). GrowsFrom (given y.answers) (wire_by new how)) p.1 (exchanged_grows mid new how x)
  Turns-grows t new how u (turned m mid (inr p) x) =
      subst (λ (l : List Answer). GrowsFrom (given l) (wire_by new how)) (ap (λ (y : ExchangeState L). y.answers) p.after) (exchanged_grows mid new how x)

  module _ (t : ExchangeState L) (counts : t.received ≡ capped (length (given t.answers))) where
    counted_on : (mid new : ExchangeState L) (how : How) → mid.received ≡ capped (length (given mid.answers)) → Exchanged history mid new how → mid.received ≤ new.received
    counted_on mid new how c (unserved none e) = omega (arith, ap (λ (x : ExchangeState L). x.received) e)
    counted_on mid new how c (lost last a o m e) =
        let nothing : length (given last.answers) ≡ 0 = ap (λ (l : List ℕ). length l) m.silent in
        omega (arith, c, longer mid.answers a.more last.answers a.noted, nothing)
    counted_on mid new how c (blocked a b g) = omega (arith, c, longer mid.answers a.more new.answers a.noted, ap (λ (x : ExchangeState L). x.received) g)
    counted_on mid new how c (unfinished a b g) = omega (arith, c, longer mid.answers a.more new.answers a.noted, ap (λ (x : ExchangeState L). x.received) g)
    counted_on mid new how c (ended {o} a e r) =
        omega (arith, c, wire_holds mid.limit mid.request.method mid.answers a.more new.answers o.wire e.judgement o.code a.noted a.asked e.cause, (ending e.ends).1)

    stopped_count : {new : ExchangeState L} {o : HopValue} → StopsWith t new o → t.received ≤ new.received
    stopped_count s = omega (arith, counts, ap (λ (l : List ℕ). length l) s.wire, (ending s.ends).1)

    pub Turns-counted : (new : ExchangeState L) (how : How) → (t.needs_probe ≡ true → t.answers ≡ []) → Turns history t new how → t.received ≤ new.received
    Turns-counted new how u (late due is s) = stopped_count s
    Turns-counted new how u (given_up early is s) = stopped_count s
    Turns-counted new how u (paused m still e) = omega (arith, ap (λ (x : ExchangeState L). x.received) e)
    Turns-counted new how u (refused m f) = omega (arith, counts, ap (λ (l : List Answer). length (given l)) (u f.needed), ap (λ (x : ExchangeState L). x.received) f.after)
    Turns-counted new how u (turned m mid (inl p) x) = subst (λ (y : ExchangeState L). y.received ≤ new.received) p.1 (counted_on mid new how (rw p.1 counts) x)
    Turns-counted new how u (turned m mid (inr p) x) =
        let same : mid.received ≡ t.received = ap (λ (y : ExchangeState L). y.received) p.after in
        let heard : mid.answers ≡ t.answers = ap (λ (y : ExchangeState L). y.answers) p.after in
        omega (arith, same, counted_on mid new how (same ∙ counts ∙ ap (λ (l : List Answer). capped (length (given l))) (sym heard)) x)

  -- the number of a link that is left
  module _ (token_of : L → ℕ) where
    pub keeps_same : (was is : Option L) → is ≡ was → KeepsToken token_of was is
    keeps_same None is e = tt
    keeps_same (Some x) None e = tt
    keeps_same (Some x) (Some y) e = let same : y ≡ x = (let k : Some y ≡ Some x = e in cc) in ap token_of same

    keeps_none : (was : Option L) → KeepsToken token_of was None
    keeps_none None = tt
    keeps_none (Some x) = tt

    keeps_both : (was mid is : Option L) → (mid ≡ None → was ≡ None) → KeepsToken token_of was mid → KeepsToken token_of mid is → KeepsToken token_of was is
    keeps_both None mid is stays a b = tt
    keeps_both (Some x) mid None stays a b = tt
    keeps_both (Some x) None (Some z) stays a b = let none : Some x ≡ None = stays refl in cc
    keeps_both (Some x) (Some y) (Some z) stays a b = b ∙ a

    -- a probe leaves the link where it doesn't drop it
    pub keeps_probed : (t mid : ExchangeState L) (is : Option L) → Probed history t mid → KeepsToken token_of t.link mid.link → KeepsToken token_of mid.link is → KeepsToken token_of t.link is
    keeps_probed t mid is (inl p) a b = keeps_both t.link mid.link is (λ e. sym (ap (λ (x : ExchangeState L). x.link) p.1) ∙ e) a b
    keeps_probed t mid is (inr p) a b = keeps_both t.link mid.link is (λ e. let none : Some p.next ≡ None = sym (ap (λ (x : ExchangeState L). x.link) p.after) ∙ e in cc) a b

    pub stop_kept : (old t at new : ExchangeState L) (o : HopValue) → t ≡ clocked old → at ≡ t → StopsWith at new o → KeepsToken token_of old.link new.link
    stop_kept old t at new o e same s = keeps_same old.link new.link (s.link ∙ ap (λ (x : ExchangeState L). x.link) same ∙ ap (λ (x : ExchangeState L). x.link) e)

    pub clock_kept : (old t : ExchangeState L) (is : Option L) → t ≡ clocked old → KeepsToken token_of t.link is → KeepsToken token_of old.link is
    clock_kept old t is e kept = subst (λ (x : ExchangeState L). KeepsToken token_of x.link is) e kept

  -- after it none is needed
  pub probed_ready : (t mid : ExchangeState L) → Probed history t mid → mid.needs_probe ≡ false
  probed_ready t mid (inl p) = ap (λ (x : ExchangeState L). x.needs_probe) p.1 ∙ p.0
  probed_ready t mid (inr p) = ap (λ (x : ExchangeState L). x.needs_probe) p.after
