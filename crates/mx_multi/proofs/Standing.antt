-- What a call says of its seat.
use Rattle.std.proofs.Common.{◌≡◌, inl, inr, ℕ, ◌∙◌, sym, refl, ap, subst, List, [], ◌∷◌, ◌+◌, ◌≤◌, ◌++◌, append-nil, length, length-append, take, Bool, MatchBool, true, false, cond, arith}
use Rattle.std.specs.Prelude.{not, Option, Some, None}
use Rattle.std.specs.List.{filter}
use Rattle.std.specs.Option.{unwrap_or}
use mathlib.Core.List.{IsPrefix}
use Rattle.logbook.specs.Pages.{Book}
use Rattle.std.proofs.lemmas.Bool.{false≢true, or_left, or_right}
use Rattle.std.proofs.lemmas.List.{length-take-le, take_all}
use Rattle.std.proofs.lemmas.List.Sums.{fold-append}
use Rattle.mx_types.specs.declared.code.Code.{Code}
use Rattle.mx_types.specs.declared.names.Ticket.{Ticket}
use Rattle.mx_types.specs.declared.event.Who.{Who}
use Rattle.mx_types.specs.declared.event.Event.{Event}
use Rattle.mx_types.specs.declared.call.Call.{Call}
use Rattle.mx_types.specs.declared.call.Receipt.{Receipt}
use Rattle.mx_types.specs.declared.call.Call.TheVariants as call
use Rattle.mx_types.specs.declared.reply.Reply.{Reply}
use Rattle.mx_types.specs.declared.reply.Reply.TheVariants as reply
use Rattle.mx_journal.specs.Core.{claimed}
use Rattle.mx_journal.specs.History.{has_ticket, is_legal, made_by}
use Rattle.mx_journal.specs.Answers.{Answers, is_ready}
use Rattle.mx_journal.specs.Receipts.{is_poll, mark, IsPlaced}
use Rattle.mx_journal.specs.Laws.{HasAtMostOneMore}
use Rattle.mx_history.proofs.Lists.{same-refl}
use Rattle.mx_history.proofs.Placing.{call_adds_at_most_one, call_is_placed, placed_stays}
use Rattle.mx_board.specs.Board.{OneBeginsOther, ReaderState, Reads, caught_up, confirmed_of}
use Rattle.mx_board.specs.Progress.{NoteState}
use Rattle.mx_append_log.proofs.Prefixes.{prefix_self, prefix_trans, takes_prefix}
use Rattle.mx_lock.specs.Engine.{EngineState, EngineId, content, HasNoOther, IsLocked, Leaves, IsLeft}
use Rattle.mx_lock.specs.Lock.{maker, engine_of, newly, IsFoundBy, Took, given, released}
use Rattle.mx_multi.specs.Seats.{MultiView, SeatView, IsAhead, IsNoOlder, FindsNoneReady, FindsOther, IsSeat, HasReceipts, Finds, Confirms, Stands, Sees, SeesVersion, FoundState, LeavesState}
use Rattle.mx_board.specs.declared.answer.Progress.{Progress}
use Rattle.mx_multi.specs.Progress.{IsProgress}
use Rattle.mx_types.specs.declared.names.HandleId.{HandleId}
use Rattle.mx_types.specs.declared.origin.Origin.{Origin}
use Rattle.mx_lock.specs.declared.key_view.KeyView.{KeyView}
use Rattle.mx_append_log.specs.Log.{AreOfOneList}
use Rattle.mx_lock.specs.Queues.{Moved}
use Rattle.mx_lock.specs.Ties.{Tie, tie, Has, Tells}
use Rattle.mx_multi.specs.Laws.{AreToldAlike}
use Rattle.mx_lock.proofs.Tying.{has_more}
use Rattle.mx_lock.proofs.Keys.{longer}

-- 1. Of seats as values.

-- how many events a seat had seen at its last poll, after a call
abbrev pub polled_after : Call → ℕ → ℕ → ℕ
polled_after call n p = cond (is_poll call) n p

-- the receipt of a call, noted in other words
pub receipt_is : (new old : List Receipt) (n k : ℕ) (c d : Call) (r q : Reply) → new ≡ old ++ record { cut = n; call = c; reply = r } ∷ [] → n ≡ k → c ≡ d → r ≡ q → new ≡ old ++ record { cut = k; call = d; reply = q } ∷ []
receipt_is new old n k c d r q is cut call reply = is ∙ (λ i. old ++ record { cut = cut i; call = call i; reply = reply i } ∷ [])

mark_more : (from : ℕ) (mine : List Receipt) (call : Call) (reply : Reply) (n : ℕ) → mark from (mine ++ record { cut = n; call = call; reply = reply } ∷ []) ≡ polled_after call n (mark from mine)
mark_more from mine call reply n = fold-append (λ m (r : Receipt). cond (is_poll r.call) r.cut m) from mine (record { cut = n; call = call; reply = reply } ∷ [])

module _ {Q O : Type 0} where
  pub stands_at : (s t : SeatView Q O) (j : List Event) (call : Call) (reply : Reply) → t.of ≡ s.of → t.who ≡ s.who → Finds s j → Answers s.of.engine.opening s.who call j reply t.seen → is_legal t.seen ≡ true
      → Confirms s t → t.claims ≡ s.claims → t.given ≡ s.given → t.words ≡ s.words → IsPrefix s.ties t.ties → t.polled ≡ polled_after call (length t.seen) s.polled → (is_poll call ≡ true → is_ready s.polled t.seen ≡ true)
      → t.mine ≡ s.mine ++ record { cut = length t.seen; call = call; reply = reply } ∷ [] → Stands s t call reply
  stands_at s t j call reply same who f a legal confirmed claims given words ties at ready mine =
      let new : Receipt = record { cut = length t.seen; call = call; reply = reply } in
      record {
        of = same;
        who = who;
        later = prefix_trans s.seen j t.seen f.later (longer s.who j t.seen (call_adds_at_most_one s.of.engine.opening s.who call reply j t.seen a));
        legal = legal;
        found = (j, f, a);
        confirmed = confirmed;
        claims = claims;
        given = given;
        words = words;
        ties = ties;
        polled = at;
        ready = ready;
        mine = mine;
        placed = λ h. record {
          placed = subst (λ l. IsPlaced t.of.engine.opening t.who l t.seen) (sym mine)
              (subst (λ w. IsPlaced t.of.engine.opening w (s.mine ++ new ∷ []) t.seen) (sym who)
              (subst (λ (o : MultiView Q O). IsPlaced o.engine.opening s.who (s.mine ++ new ∷ []) t.seen) (sym same)
              (call_is_placed s.of.engine.opening s.who s.mine s.seen j t.seen call reply h.placed f.later f.own a (λ is. ap (λ m. is_ready m t.seen) h.polled ∙ ready is))));
          polled = ap (λ (o : MultiView Q O). mark o.engine.opening.from t.mine) same ∙ ap (mark s.of.engine.opening.from) mine ∙ mark_more s.of.engine.opening.from s.mine call reply (length t.seen) ∙ ap (λ m. polled_after call (length t.seen) m) h.polled ∙ sym at;
        };
      }

  pub sees_at : (s t : SeatView Q O) → t.of ≡ s.of → t.who ≡ s.who → Finds s t.seen → is_legal t.seen ≡ true → t.polled ≡ s.polled → t.confirmed ≡ length t.seen → t.words ≡ s.words → IsPrefix s.ties t.ties → t.mine ≡ s.mine → Sees s t
  sees_at s t same who f legal polled confirmed words ties mine = record {
    of = same;
    who = who;
    polled = polled;
    confirmed = confirmed;
    words = words;
    ties = ties;
    found = f;
    legal = legal;
    mine = mine;
    placed = λ h. record {
      placed = subst (λ l. IsPlaced t.of.engine.opening t.who l t.seen) (sym mine)
          (subst (λ w. IsPlaced t.of.engine.opening w s.mine t.seen) (sym who)
          (subst (λ (o : MultiView Q O). IsPlaced o.engine.opening s.who s.mine t.seen) (sym same) (placed_stays s.of.engine.opening s.who s.mine s.seen t.seen h.placed f.later f.own)));
      polled = ap (λ (o : MultiView Q O). mark o.engine.opening.from t.mine) same ∙ ap (mark s.of.engine.opening.from) mine ∙ h.polled ∙ sym polled;
    };
  }

  pub received_more : (s t : SeatView Q O) (call : Call) (reply : Reply) → Stands s t call reply → HasReceipts s → HasReceipts t
  received_more s t call reply h r = h.placed r

  pub received_same : (s t : SeatView Q O) → Sees s t → HasReceipts s → HasReceipts t
  received_same s t h r = h.placed r

  pub stands_from : (old s t : SeatView Q O) (call : Call) (reply : Reply) → old ≡ s → Stands old t call reply → Stands s t call reply
  stands_from old s t call reply e h = subst (λ (z : SeatView Q O). Stands z t call reply) e h

  pub sees_from : (old s t : SeatView Q O) → old ≡ s → Sees old t → Sees s t
  sees_from old s t e h = subst (λ (z : SeatView Q O). Sees z t) e h

  of_is : (a b : MultiView Q O) → a.table ≡ b.table → a.keys ≡ b.keys → a.engine ≡ b.engine → a.words ≡ b.words → a.limits ≡ b.limits → a ≡ b
  of_is a b p q r w n i = record { table = p i; keys = q i; engine = r i; words = w i; limits = n i }

  -- a key that stays at its lock is of the same engine
  pub same_of : (old new inner multi : MultiView Q O) (s : SeatView Q O) → s.of ≡ multi → inner ≡ multi → old ≡ s.of → new.table ≡ inner.table → new.keys ≡ inner.keys → new.engine ≡ old.engine → new.words ≡ old.words → new.limits ≡ old.limits → new ≡ old
  same_of old new inner multi s own in_ was t k e w n =
      let all : inner ≡ old = in_ ∙ sym own ∙ sym was in
      of_is new old (t ∙ ap (λ (m : MultiView Q O). m.table) all) (k ∙ ap (λ (m : MultiView Q O). m.keys) all) e w n

-- 2. A key and its reader.

prefix_length : (xs ys : List Event) → IsPrefix xs ys → length xs ≤ length ys
prefix_length xs ys h = omega (arith, ap length h.1, length-append xs h.0)

-- a journal that has all that a reader has confirmed, is no older than what its seat has seen
pub no_older : {Q O : Type 0} (r : ReaderState) (s : SeatView Q O) (j : List Event) → s.seen ≡ r.seen → s.confirmed ≡ r.confirmed → r.confirmed ≤ length r.seen → IsPrefix (confirmed_of r) j → IsNoOlder s j
no_older r s j seen confirmed within newer =
    let counts = length-take-le r.confirmed r.seen within in
    let fits = prefix_length (confirmed_of r) j newer in
    record {
      long = omega (arith, confirmed, counts, fits);
      begins = subst (λ l. IsPrefix l j) (sym (ap (take s.confirmed) seen ∙ ap (λ n. take n r.seen) confirmed)) newer;
    }

-- and so is one that begins with all that was seen
pub begins_newer : (r : ReaderState) (j : List Event) → IsPrefix r.seen j → IsPrefix (confirmed_of r) j
begins_newer r j p = prefix_trans (confirmed_of r) r.seen j (takes_prefix r.confirmed (confirmed_of r) r.seen refl) p

all_confirmed : (j : List Event) → (length j ≤ length j) × (length j ≤ length j + 1)
all_confirmed j = (omega arith, omega arith)

module _ {Q O : Type 0} where
  -- the seat of a key and a reader
  abbrev pub seat_of : MultiView Q O → KeyView → ReaderState → ℕ → NoteState → List Origin → List Receipt → List Ticket → SeatView Q O
  seat_of of v r p n k m back = record { of = of; who = r.who; seen = r.seen; confirmed = r.confirmed; polled = p; claims = v.claims; given = back; words = n; ties = k; mine = m }

  -- a reader that has seen the whole journal
  abbrev pub at_end : Who → EngineState Q O → ReaderState
  at_end who y = caught_up who y.core.journal y.book

none_new : (before : List Ticket) (p : Ticket → Bool) (after : List Ticket) → ((t : Ticket) → has_ticket t after ≡ true → p t ≡ false) → filter p after ≡ []
none_new before p [] h = refl
none_new before p (t ∷ after) h = ap (λ b. cond b (t ∷ filter p after) (filter p after)) (h t (or_left _ _ (same-refl t))) ∙ none_new before p after (λ u k. h u (or_right _ _ k))

-- the engine that a key took, before anything was done
module _ {Q O : Type 0} (v w : KeyView) (r : ReaderState) (x : EngineState Q O) (seat : IsSeat v r) (took : Took content v x w) where
  -- the journal that was found
  pub finds : (of : MultiView Q O) (p : ℕ) (n : NoteState) (k : List Origin) (m : List Receipt) (back : List Ticket) → IsPrefix r.seen x.core.journal → Finds (seat_of of v r p n k m back) x.core.journal
  finds of p n k m back pre =
      let own : made_by r.who x.core.journal ≡ made_by r.who v.seen = subst (λ w. made_by w x.core.journal ≡ made_by w v.seen) seat.who took.own in
      record { later = pre; own = own ∙ sym seat.own }

  -- what was found, where the key put it back, and nothing was ready
  pub finds_none_ready : (code : O → Code) (size : O → ℕ) (of : MultiView Q O) (p : ℕ) (n : NoteState) (k : List Origin) (m : List Receipt) (back : List Ticket) → of.engine ≡ engine_of v → IsPrefix r.seen x.core.journal → IsLocked code size x → is_ready p x.core.journal ≡ false
      → FindsNoneReady code size (seat_of of v r p n k m back)
  finds_none_ready code size of p n k m back engine pre locked none =
      record {
        found = x;
        engine = sym took.engine ∙ sym engine;
        locked = locked;
        newer = no_older r (seat_of of v r p n k m back) x.core.journal refl refl seat.but_last.0 (begins_newer r x.core.journal pre);
        begins = finds of p n k m back pre;
        none = none;
      }

  pub book_found : r.book ≡ x.book
  book_found = seat.book ∙ ap (λ (e : EngineId). e.book) took.engine

  pub engine_found : (y : EngineState Q O) → y.book ≡ x.book → y.core.opening ≡ x.core.opening → y.ties.book ≡ x.ties.book → engine_of w ≡ (content y).engine
  engine_found y book opening ties = ap engine_of took.is ∙ took.engine ∙ sym (engine_is y book opening ties)
    where
      engine_is : (y : EngineState Q O) → y.book ≡ x.book → y.core.opening ≡ x.core.opening → y.ties.book ≡ x.ties.book → (content y).engine ≡ (content x).engine
      engine_is y b o t i = record { book = b i; opening = o i; ties = t i }

  pub grows_by : (y : EngineState Q O) (by : Who) (call : Call) (reply : Reply) → by ≡ r.who → Leaves by call x reply y → HasAtMostOneMore (maker w.number) w.held y.core.journal
  grows_by y by call reply is leaves =
      subst (λ (k : KeyView). HasAtMostOneMore (maker k.number) k.held y.core.journal) (sym took.is)
      (subst (λ m. HasAtMostOneMore m x.core.journal y.core.journal) (is ∙ sym seat.who) (call_adds_at_most_one x.core.opening by call reply x.core.journal y.core.journal leaves.answers))

  pub grows_none : (y : EngineState Q O) → y.core.journal ≡ x.core.journal → HasAtMostOneMore (maker w.number) w.held y.core.journal
  grows_none y same = inl (same ∙ ap (λ (k : KeyView). k.held) (sym took.is))

  pub begins_by : (y : EngineState Q O) (by : Who) (call : Call) (reply : Reply) → Leaves by call x reply y → IsPrefix r.seen x.core.journal → IsPrefix r.seen y.core.journal
  begins_by y by call reply leaves pre =
      prefix_trans r.seen x.core.journal y.core.journal pre (longer by x.core.journal y.core.journal (call_adds_at_most_one x.core.opening by call reply x.core.journal y.core.journal leaves.answers))

  -- a key that put back what it took
  pub seat_released : (u : KeyView) → u ≡ released w → IsSeat u r
  seat_released u back =
      let is : u ≡ released v = back ∙ ap released took.is in
      subst (λ (k : KeyView). IsSeat k r) (sym is) (record { free = refl; told = seat.told; who = seat.who; book = seat.book; later = seat.later; own = seat.own; but_last = seat.but_last })

  -- after the engine was given back, and the reader brought up to it
  module _ (u : KeyView) (t : ReaderState) (y : EngineState Q O) (gave : u ≡ given w (content y)) (got : t ≡ at_end r.who y) where
    is_given : u ≡ given (record v { holding = true; held = x.core.journal; found = (content x).claimed }) (content y)
    is_given = gave ∙ ap (λ (k : KeyView). given k (content y)) took.is

    pub seat_after : y.book ≡ x.book → IsSeat u t
    seat_after book =
        subst (λ (k : KeyView). IsSeat k t) (sym is_given)
        (subst (λ (z : ReaderState). IsSeat (given (record v { holding = true; held = x.core.journal; found = (content x).claimed }) (content y)) z) (sym got)
        (record {
          free = refl;
          told = seat.told;
          who = seat.who;
          book = book ∙ ap (λ (e : EngineId). e.book) (sym took.engine);
          later = prefix_self y.core.journal;
          own = refl;
          but_last = all_confirmed y.core.journal;
        }))

    claims_are : u.claims ≡ v.claims ++ newly (content x).claimed (content y).claimed
    claims_are = ap (λ (k : KeyView). k.claims) is_given

    pub claims_after : HasNoOther (content x).claimed (content y).claimed → u.claims ≡ v.claims
    claims_after none =
        claims_are ∙ ap (λ l. v.claims ++ l) (none_new (content x).claimed (λ s. not (has_ticket s (content x).claimed)) (content y).claimed (λ s k. ap not (none s k))) ∙ append-nil v.claims

    pub claims_one : (ticket : Ticket) → newly (content x).claimed (content y).claimed ≡ ticket ∷ [] → u.claims ≡ v.claims ++ ticket ∷ []
    claims_one ticket one = claims_are ∙ ap (λ l. v.claims ++ l) one

    -- all is confirmed then
    confirms : (of of' : MultiView Q O) (p q : ℕ) (n : NoteState) (k l : List Origin) (ms : List Receipt) (back : List Ticket) (mt : List Receipt) → IsPrefix r.seen y.core.journal → Confirms (seat_of of v r p n k ms back) (seat_of of' u t q n l mt back)
    confirms of of' p q n k l ms back mt pre =
        let at : t.confirmed ≡ length t.seen = ap (λ (z : ReaderState). z.confirmed) got ∙ ap length (sym (ap (λ (z : ReaderState). z.seen) got)) in
        let long = prefix_length r.seen y.core.journal pre in
        let seen : length t.seen ≡ length y.core.journal = ap (λ (z : ReaderState). length z.seen) got in
        let was = seat.but_last.0 in
        record { more = omega (arith, at, long, seen, was); within = omega (arith, at); but_last = omega (arith, at) }

    pub lock_stands : (of of' : MultiView Q O) (p q : ℕ) (n : NoteState) (k l : List Origin) (ms : List Receipt) (back : List Ticket) (mt : List Receipt) (by : Who) (call : Call) (reply : Reply) → IsPrefix k l → of.engine ≡ engine_of v → of' ≡ of → by ≡ r.who → IsPrefix r.seen x.core.journal → Leaves by call x reply y
        → q ≡ polled_after call (length y.core.journal) p → (is_poll call ≡ true → is_ready p y.core.journal ≡ true) → mt ≡ ms ++ record { cut = length t.seen; call = call; reply = reply } ∷ []
        → Stands (seat_of of v r p n k ms back) (seat_of of' u t q n l mt back) call reply
    lock_stands of of' p q n k l ms back mt by call reply ties engine same is pre leaves at ready mine =
        let opening : x.core.opening ≡ of.engine.opening = ap (λ (e : EngineId). e.opening) (sym (engine ∙ took.engine)) in
        let a = subst (λ o. Answers o by call x.core.journal reply y.core.journal) opening leaves.answers in
        let b = subst (λ m. Answers of.engine.opening m call x.core.journal reply y.core.journal) is a in
        let seen : t.seen ≡ y.core.journal = ap (λ (z : ReaderState). z.seen) got in
        stands_at (seat_of of v r p n k ms back) (seat_of of' u t q n l mt back) x.core.journal call reply same (ap (λ (z : ReaderState). z.who) got) (finds of p n k ms back pre)
        (subst (λ z. Answers of.engine.opening r.who call x.core.journal reply z) (sym seen) b) (ap is_legal seen ∙ leaves.legal)
        (confirms of of' p q n k l ms back mt (begins_by y by call reply leaves pre)) (claims_after leaves.claims) refl refl ties
        (at ∙ ap (λ z. polled_after call (length z) p) (sym seen)) (λ poll. ap (is_ready p) seen ∙ ready poll) mine

    pub lock_sees : (of of' : MultiView Q O) (p : ℕ) (n : NoteState) (k l : List Origin) (m : List Receipt) (back back' : List Ticket) → IsPrefix k l → of' ≡ of → IsPrefix r.seen x.core.journal → IsLeft x y → Sees (seat_of of v r p n k m back) (seat_of of' u t p n l m back')
    lock_sees of of' p n k l m back back' ties same pre left =
        let seen : t.seen ≡ x.core.journal = ap (λ (z : ReaderState). z.seen) got ∙ left.journal in
        sees_at (seat_of of v r p n k m back) (seat_of of' u t p n l m back') same (ap (λ (z : ReaderState). z.who) got) (subst (Finds (seat_of of v r p n k m back)) (sym seen) (finds of p n k m back pre)) (ap is_legal (ap (λ (z : ReaderState). z.seen) got) ∙ left.legal) refl
        (ap (λ (z : ReaderState). z.confirmed) got ∙ ap length (sym (ap (λ (z : ReaderState). z.seen) got))) refl ties refl

  -- the state that was found, by a seat that has then seen its journal
  pub found_state : (code : O → Code) (size : O → ℕ) (s : SeatView Q O) (y : EngineState Q O) → y ≡ x → s.seen ≡ x.core.journal → s.of.engine ≡ engine_of v → IsLocked code size x → FoundState code size s y
  found_state code size s y same seen engine locked = subst (FoundState code size s) (sym same) (record { journal = sym seen; engine = sym took.engine ∙ sym engine; locked = locked })

  -- the state that was left, by a seat that has then seen its journal
  pub found_left : (code : O → Code) (size : O → ℕ) (s : SeatView Q O) (y : EngineState Q O) → y.book ≡ x.book → y.core.opening ≡ x.core.opening → y.ties.book ≡ x.ties.book → y.core.journal ≡ s.seen → s.of.engine ≡ engine_of v → IsLocked code size y → FoundState code size s y
  found_left code size s y book opening ties seen engine locked =
      record { journal = seen; engine = sym (engine_found y book opening ties) ∙ ap engine_of took.is ∙ sym engine; locked = locked }

  -- the key's engine stays
  pub engine_kept : (u : KeyView) (c : EngineState Q O) → u ≡ given w (content c) → engine_of u ≡ engine_of v
  engine_kept u c gave = ap engine_of gave ∙ ap engine_of took.is

  -- its list of ties is that of the multi handle of which the seat is
  pub list_of : (of : MultiView Q O) → engine_of v ≡ of.engine → x.ties.book ≡ of.engine.ties
  list_of of is = ap (λ (e : EngineId). e.ties) (sym took.engine ∙ is)

  -- its list of ties is that of the seat's mark
  pub list_found : (y : EngineState Q O) (a : Book) → a ≡ (engine_of v).ties → y.ties.book ≡ x.ties.book → y.ties.book ≡ a
  list_found y a own same = same ∙ sym (ap (λ (e : EngineId). e.ties) took.engine) ∙ sym own

  pub list_kept : (u : KeyView) (c : EngineState Q O) (a b : Book) → u ≡ given w (content c) → b ≡ a → a ≡ (engine_of v).ties → b ≡ (engine_of u).ties
  list_kept u c a b gave same own = same ∙ own ∙ sym (ap (λ (e : EngineId). e.ties) (engine_kept u c gave))

  pub engine_released : (u : KeyView) → u ≡ released w → engine_of u ≡ engine_of v
  engine_released u back = ap engine_of back ∙ ap engine_of took.is

  pub list_released : (u : KeyView) (a : Book) → u ≡ released w → a ≡ (engine_of v).ties → a ≡ (engine_of u).ties
  list_released u a back own = own ∙ sym (ap (λ (e : EngineId). e.ties) (engine_released u back))

  pub claims_released : (u : KeyView) → u ≡ released w → u.claims ≡ v.claims
  claims_released u back = ap (λ (k : KeyView). k.claims) back ∙ ap (λ (k : KeyView). k.claims) took.is

-- 3. A read.

-- a reader that has read
pub seat_read : (v : KeyView) (r t : ReaderState) → IsSeat v r → Reads r t → IsSeat v t
seat_read v r t s h = record {
  free = s.free;
  told = s.told;
  who = s.who ∙ sym h.who;
  book = h.book ∙ s.book;
  later = prefix_trans v.seen r.seen t.seen s.later h.later;
  own = subst (λ m. made_by m t.seen ≡ made_by m v.seen) (sym h.who) (h.own ∙ s.own);
  but_last = h.but_last;
}

-- a read is placed at what it has then seen
pub stands_read : {Q O : Type 0} (of : MultiView Q O) (v : KeyView) (r t : ReaderState) (p : ℕ) (n : NoteState) (k : List Origin) (ms : List Receipt) (back : List Ticket) (mt : List Receipt) (call : Call) (reply : Reply) → Reads r t → is_poll call ≡ false → Answers of.engine.opening r.who call t.seen reply t.seen
    → mt ≡ ms ++ record { cut = length t.seen; call = call; reply = reply } ∷ [] → Stands (seat_of of v r p n k ms back) (seat_of of v t p n k mt back) call reply
stands_read of v r t p n k ms back mt call reply h quiet a mine =
    stands_at (seat_of of v r p n k ms back) (seat_of of v t p n k mt back) t.seen call reply refl h.who (record { later = h.later; own = h.own }) a h.legal
    (record { more = h.confirmed; within = h.but_last.0; but_last = h.but_last.1 }) refl refl refl (prefix_self k)
    (ap (λ b. cond b (length t.seen) p) (sym quiet)) (λ is. absurd (false≢true (sym quiet ∙ is))) mine

-- 4. A seat that meets another.

-- a key whose reader sees more
pub seat_sees : {Q O : Type 0} (v : KeyView) (r t : ReaderState) (x : EngineState Q O) → IsSeat v r → IsPrefix r.seen x.core.journal → made_by r.who x.core.journal ≡ made_by r.who r.seen → r.book ≡ x.book → t ≡ at_end r.who x → IsSeat v t
seat_sees v r t x s pre own book got =
    subst (IsSeat v) (sym got) (record {
      free = s.free;
      told = s.told;
      who = s.who;
      book = sym book ∙ s.book;
      later = prefix_trans v.seen r.seen x.core.journal s.later pre;
      own = own ∙ s.own;
      but_last = all_confirmed x.core.journal;
    })

pub other_sees : {Q O : Type 0} (of : MultiView Q O) (v : KeyView) (r t : ReaderState) (p : ℕ) (n : NoteState) (k l : List Origin) (m : List Receipt) (back : List Ticket) (x : EngineState Q O) → IsPrefix k l → IsPrefix r.seen x.core.journal → made_by r.who x.core.journal ≡ made_by r.who r.seen → is_legal x.core.journal ≡ true → t ≡ at_end r.who x
    → Sees (seat_of of v r p n k m back) (seat_of of v t p n l m back)
other_sees of v r t p n k l m back x ties pre own legal got =
    let seen : t.seen ≡ x.core.journal = ap (λ (z : ReaderState). z.seen) got in
    sees_at (seat_of of v r p n k m back) (seat_of of v t p n l m back) refl (ap (λ (z : ReaderState). z.who) got)
    (subst (Finds (seat_of of v r p n k m back)) (sym seen) (record { later = pre; own = own })) (ap is_legal seen ∙ legal) refl (ap (λ (z : ReaderState). z.confirmed) got ∙ ap length (sym seen)) refl ties refl

-- 5. How the engine is left.

pub left_same : {Q O : Type 0} (x y : EngineState Q O) → y ≡ x → is_legal x.core.journal ≡ true → IsLeft x y
left_same {Q} {O} x y e legal = subst (IsLeft x) (sym e) (record { journal = refl; opening = refl; book = refl; ties = refl; legal = legal })

pub no_other : {Q O : Type 0} (x y : EngineState Q O) → y ≡ x → HasNoOther (content x).claimed (content y).claimed
no_other {Q} {O} x y e = subst (λ (z : EngineState Q O). HasNoOther (content x).claimed (content z).claimed) (sym e) (λ t h. h)

pub none_claimed : {Q : Type 0} (j k : List Event) (q r : List (Ticket × Q)) → k ≡ j → q ≡ [] → r ≡ [] → HasNoOther (claimed j q) (claimed k r)
none_claimed {Q} j k q r e none still = λ t h.
    sym (ap (λ l. has_ticket t (claimed l r)) e ∙ ap (λ (z : List (Ticket × Q)). has_ticket t (claimed j z)) (still ∙ sym none)) ∙ h

-- what was found by a seat's key doesn't begin with what the seat has seen, though it does with what is confirmed of that
pub finds_other : {Q O : Type 0} (code : O → Code) (size : O → ℕ) (v : KeyView) (r : ReaderState) (x : EngineState Q O) (of : MultiView Q O) (p : ℕ) (n : NoteState) (k : List Origin) (m : List Receipt) (back : List Ticket) → of.engine ≡ engine_of v → IsSeat v r → IsFoundBy code size v x → IsPrefix (confirmed_of r) x.core.journal → (IsPrefix r.seen x.core.journal → ⊥)
    → FindsOther code size (seat_of of v r p n k m back)
finds_other code size v r x of p n k m back engine seat found newer lacks = record {
  found = x;
  engine = found.engine ∙ sym engine;
  locked = found.locked;
  newer = no_older r (seat_of of v r p n k m back) x.core.journal refl refl seat.but_last.0 newer;
  own = subst (λ w. made_by w x.core.journal ≡ made_by w v.seen) seat.who found.own ∙ sym seat.own;
  other = λ f. lacks f.later;
}

-- where all that it has seen is confirmed, it does
pub right_seat : {Q O : Type 0} (code : O → Code) (size : O → ℕ) (s : SeatView Q O) → s.confirmed ≡ length s.seen → FindsOther code size s → ⊥
right_seat code size s all h =
    let whole : take s.confirmed s.seen ≡ s.seen = ap (λ n. take n s.seen) all ∙ take_all (length s.seen) s.seen (omega arith) in
    h.other (record { later = subst (λ l. IsPrefix l h.found.core.journal) whole h.newer.begins; own = h.own })

-- and what a reader knows of an engine holds for the same one
pub ahead_as : {Q O : Type 0} (b : Bool) (r : ReaderState) (x y : EngineState Q O) → x ≡ y → b ≡ true → MatchBool b (IsAhead r x.core.journal) (IsAhead r x.core.journal → ⊥) → IsAhead r y.core.journal
ahead_as {Q} {O} b r x y e is h =
    subst (λ (z : EngineState Q O). IsAhead r z.core.journal) e (subst (λ c. MatchBool c (IsAhead r x.core.journal) (IsAhead r x.core.journal → ⊥)) is h)

pub behind_as : {Q O : Type 0} (b : Bool) (r : ReaderState) (x y : EngineState Q O) → x ≡ y → b ≡ false → MatchBool b (IsAhead r x.core.journal) (IsAhead r x.core.journal → ⊥) → IsAhead r y.core.journal → ⊥
behind_as {Q} {O} b r x y e is h =
    subst (λ (z : EngineState Q O). IsAhead r z.core.journal → ⊥) e (subst (λ c. MatchBool c (IsAhead r x.core.journal) (IsAhead r x.core.journal → ⊥)) is h)

pub other_from : {Q O : Type 0} (code : O → Code) (size : O → ℕ) (old s : SeatView Q O) → old ≡ s → FindsOther code size old → FindsOther code size s
other_from {Q} {O} code size old s e h = subst (λ (z : SeatView Q O). FindsOther code size z) e h

pub none_ready_from : {Q O : Type 0} (code : O → Code) (size : O → ℕ) (old s : SeatView Q O) → old ≡ s → FindsNoneReady code size old → FindsNoneReady code size s
none_ready_from {Q} {O} code size old s e h = subst (λ (z : SeatView Q O). FindsNoneReady code size z) e h

-- a poll that may return
-- what holds of one engine holds of the same one
pub locked_as : {Q O : Type 0} (code : O → Code) (size : O → ℕ) (x y : EngineState Q O) → x ≡ y → IsLocked code size x → IsLocked code size y
locked_as {Q} {O} code size x y e h = subst (λ (z : EngineState Q O). IsLocked code size z) e h

pub legal_as : {Q O : Type 0} (x y : EngineState Q O) → x ≡ y → is_legal x.core.journal ≡ true → is_legal y.core.journal ≡ true
legal_as {Q} {O} x y e h = subst (λ (z : EngineState Q O). is_legal z.core.journal ≡ true) e h

pub length_as : {Q O : Type 0} (n : ℕ) (x y : EngineState Q O) → x ≡ y → n ≡ length x.core.journal → n ≡ length y.core.journal
length_as {Q} {O} n x y e h = subst (λ (z : EngineState Q O). n ≡ length z.core.journal) e h

pub ready_as : {Q O : Type 0} (b : Bool) (n : ℕ) (x y : EngineState Q O) → x ≡ y → b ≡ is_ready n x.core.journal → b ≡ is_ready n y.core.journal
ready_as {Q} {O} b n x y e h = subst (λ (z : EngineState Q O). b ≡ is_ready n z.core.journal) e h

pub woken : {Q O : Type 0} (who : Who) (x : EngineState Q O) → is_legal x.core.journal ≡ true → Leaves who call.Poll x reply.Woken x
woken who x legal = record { answers = (refl, sym (append-nil x.core.journal)); opening = refl; book = refl; ties = refl; legal = legal; claims = λ t h. h; out = refl; unchanged = λ none. refl }

pub caught_confirmed : {Q O : Type 0} (who : Who) (t : ReaderState) (y : EngineState Q O) → t ≡ at_end who y → t.confirmed ≡ length t.seen
caught_confirmed who t y got = ap (λ (z : ReaderState). z.confirmed) got ∙ ap length (sym (ap (λ (z : ReaderState). z.seen) got))

pub quiet_mark : (c : Call) (n p : ℕ) → is_poll c ≡ false → p ≡ polled_after c n p
quiet_mark c n p quiet = ap (λ b. cond b n p) (sym quiet)

-- a seat whose key put back what it took
pub received_released : {Q O : Type 0} (v u : KeyView) (r : ReaderState) (of of' : MultiView Q O) (p : ℕ) (n : NoteState) (k : List Origin) (m : List Receipt) (back : List Ticket) → of'.engine ≡ of.engine → HasReceipts (seat_of of v r p n k m back) → HasReceipts (seat_of of' u r p n k m back)
received_released v u r of of' p n k m back same h =
    record { placed = subst (λ (e : EngineId). IsPlaced e.opening r.who m r.seen) (sym same) h.placed; polled = ap (λ (e : EngineId). mark e.opening.from m) same ∙ h.polled }

pub left_from : {Q O : Type 0} (code : O → Code) (size : O → ℕ) (old s t : SeatView Q O) (reply : Reply) (moved : Moved Q O) → old ≡ s → LeavesState code size old t reply moved → LeavesState code size s t reply moved
left_from {Q} {O} code size old s t reply moved e h = subst (λ (z : SeatView Q O). LeavesState code size z t reply moved) e h

-- what was told of a list is told of each continuation
pub tells_on : (xs ys : List Origin) (o : Option Tie) → IsPrefix xs ys → Tells o xs → Tells o ys
tells_on xs ys None p h = tt
tells_on xs ys (Some x) p h = has_more xs ys x.ticket x.origin p h

same_origin : (xs : List Origin) (t : Ticket) (a b : Origin) → Has xs (tie t a) → Has xs (tie t b) → a ≡ b
same_origin xs t a b h k = ap (λ (o : Option Origin). unwrap_or o a) (sym h ∙ k)

-- two seats all of whose events are confirmed
pub whole_begins : (xs ys : List Event) (n m : ℕ) → OneBeginsOther (take n xs) (take m ys) → n ≡ length xs → m ≡ length ys → OneBeginsOther xs ys
whole_begins xs ys n m h e f =
    subst (λ l. OneBeginsOther l ys) (ap (λ k. take k xs) e ∙ take_all (length xs) xs (omega arith))
    (subst (OneBeginsOther (take n xs)) (ap (λ k. take k ys) f ∙ take_all (length ys) ys (omega arith)) h)

pub told_alike : (xs ys : List Origin) → AreOfOneList xs ys → AreToldAlike xs ys
told_alike xs ys (inl p) t a b h k = same_origin ys t a b (has_more xs ys t a p h) k
told_alike xs ys (inr p) t a b h k = same_origin xs t a b h (has_more ys xs t b p k)

-- 6. A version that was read, with no receipt.

pub sees_version : {Q O : Type 0} (of of' : MultiView Q O) (v : KeyView) (r t : ReaderState) (p : ℕ) (n m : NoteState) (k : List Origin) (mine : List Receipt) (back : List Ticket) → of' ≡ of → Reads r t → SeesVersion (seat_of of v r p n k mine back) (seat_of of' v t p m k mine back)
sees_version {Q} {O} of of' v r t p n m k mine back same h = record {
  of = same;
  who = h.who;
  polled = refl;
  claims = refl;
  given = refl;
  ties = refl;
  confirmed = record { more = h.confirmed; within = h.but_last.0; but_last = h.but_last.1 };
  found = record { later = h.later; own = h.own };
  legal = h.legal;
  mine = refl;
  placed = λ q. record {
    placed = subst (λ (o : MultiView Q O). IsPlaced o.engine.opening t.who mine t.seen) (sym same)
        (subst (λ w. IsPlaced of.engine.opening w mine t.seen) (sym h.who) (placed_stays of.engine.opening r.who mine r.seen t.seen q.placed h.later h.own));
    polled = ap (λ (o : MultiView Q O). mark o.engine.opening.from mine) same ∙ q.polled;
  };
}

pub received_version : {Q O : Type 0} (s t : SeatView Q O) → SeesVersion s t → HasReceipts s → HasReceipts t
received_version s t h r = h.placed r

pub progress_from : {Q O : Type 0} (old s t : SeatView Q O) (h : HandleId) (p : Progress) → old ≡ s → SeesVersion old t → IsProgress h t.seen old.words t.words p → SeesVersion s t × IsProgress h t.seen s.words t.words p
progress_from {Q} {O} old s t h p e sees is = subst (λ (z : SeatView Q O). SeesVersion z t × IsProgress h t.seen z.words t.words p) e (sees, is)
