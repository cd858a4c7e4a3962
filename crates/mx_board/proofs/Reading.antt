-- What a read shows a reader.
use Rattle.std.proofs.Common.{◌≡◌, ◌≢◌, inl, inr, ◌∙◌, sym, refl, ap, subst, List, [], ◌∷◌, ◌++◌, append-nil, length, length-append, Bool, true, false, Option, Some, None, MatchBool, arith}
use Rattle.std.specs.Prelude.{take}
use Rattle.std.specs.Option.{option_to_list}
use Rattle.std.proofs.lemmas.List.{take_at}
use mathlib.Core.List.{IsPrefix}
use Rattle.logbook.specs.Pages.{Book}
use Rattle.mx_types.specs.declared.event.Who.{Who}
use Rattle.mx_types.specs.declared.event.Event.{Event}
use Rattle.mx_history.specs.History.{is_legal, made_by}
use Rattle.mx_append_log.specs.Log.{Mark}
use Rattle.mx_board.specs.declared.view.ReaderView.{ReaderView}
use Rattle.mx_board.specs.Board.{mark_of, ReaderState, ConfirmsAllButLast, Reads, BeginsButLast, AreOfOneJournal, OneBeginsOther}
use Rattle.mx_board.specs.Published.{Shown, HasSeen, CaughtUp}
use Rattle.mx_append_log.proofs.Prefixes.{prefix_self, prefix_trans}

-- a reader with a mark, and perhaps an event after it
abbrev pub reader_at : Who → List Event → Option Event → Book → ReaderState
reader_at w xs o b = record { who = w; seen = xs ++ option_to_list o; book = b; confirmed = length xs }

pub but_last : (w : Who) (xs : List Event) (o : Option Event) (b : Book) → ConfirmsAllButLast (reader_at w xs o b)
but_last w xs None b = let all = ap length (append-nil xs) in (omega (arith, all), omega (arith, all))
but_last w xs (Some e) b = let all = length-append xs (e ∷ []) in (omega (arith, all), omega (arith, all))

-- what an enter shows of a version whose journal is j: it begins with what was seen, is legal, and the place has then seen it
pub record Shows (m : Mark Event) (j : List Event) (b : Book) (w : ReaderView) : Type 0 where
  pub later : IsPrefix m.entries j
  pub legal : is_legal j ≡ true
  pub book : b ≡ m.book
  pub seen : HasSeen (mark_of j b) w

pub shows : (m : Mark Event) (v w : ReaderView) (x : Shown) (j : List Event) (b : Book) → HasSeen m v → CaughtUp v x w → x.1 ≡ mark_of j b → Shows m j b w
shows m v w x j b h s is =
    let later = prefix_trans m.entries v.seen x.1.entries h.later s.0.later in
    let book = sym (s.0.book h.knows) ∙ h.book in
    let seen = subst (HasSeen x.1) (sym s.2) (record { knows = refl; book = refl; later = prefix_self x.1.entries }) in
    subst (λ (n : Mark Event). Shows m n.entries n.book w) is (record { later = later; legal = s.1.table.legal; book = book; seen = seen })

-- a read that shows nothing new
pub reads_same : (w : Who) (xs : List Event) (o : Option Event) (b : Book) → is_legal (xs ++ option_to_list o) ≡ true → Reads (reader_at w xs o b) (reader_at w xs o b)
reads_same w xs o b legal =
    record { who = refl; book = refl; later = prefix_self (xs ++ option_to_list o); legal = legal; own = refl; confirmed = omega arith; but_last = but_last w xs o b }

-- a read that shows more events confirms all that were seen
pub reads_more : (w : Who) (xs ys : List Event) (o p : Option Event) (a b : Book) → IsPrefix (xs ++ option_to_list o) (ys ++ option_to_list p) → length (ys ++ option_to_list p) ≢ length (xs ++ option_to_list o)
    → is_legal (ys ++ option_to_list p) ≡ true → b ≡ a → made_by w (ys ++ option_to_list p) ≡ made_by w (xs ++ option_to_list o)
    → Reads (reader_at w xs o a) (reader_at w ys p b)
reads_more w xs ys o p a b later more legal book own =
    let was = but_last w xs o a in
    let is = but_last w ys p b in
    let longer = length-append (xs ++ option_to_list o) later.0 in
    let all = ap length later.1 in
    record { who = refl; book = book; later = later; legal = legal; own = own; confirmed = omega (arith, was.0, is.1, longer, all, more); but_last = is }

-- a list with an event after it that may be another's
with_tail : (xs j : List Event) (o : Option Event) → IsPrefix xs j → BeginsButLast (xs ++ option_to_list o) j
with_tail xs j None p = inl (subst (λ l. IsPrefix l j) (sym (append-nil xs)) p)
with_tail xs j (Some e) p = inr (xs, e, refl, p)

pub one_journal : (xs ys : List Event) (o p : Option Event) (b : Bool) → MatchBool b (IsPrefix ys xs) (IsPrefix xs ys) → AreOfOneJournal (xs ++ option_to_list o) (ys ++ option_to_list p)
one_journal xs ys o p true h = (xs, with_tail xs xs o (prefix_self xs), with_tail ys xs p h)
one_journal xs ys o p false h = (ys, with_tail xs ys o h, with_tail ys ys p (prefix_self ys))

confirms : (xs : List Event) (o : Option Event) → take (length xs) (xs ++ option_to_list o) ≡ xs
confirms xs o = take_at xs (option_to_list o) (length xs) refl

pub one_begins_other : (xs ys : List Event) (o p : Option Event) (b : Bool) → MatchBool b (IsPrefix ys xs) (IsPrefix xs ys)
    → OneBeginsOther (take (length xs) (xs ++ option_to_list o)) (take (length ys) (ys ++ option_to_list p))
one_begins_other xs ys o p b h = rw (confirms xs o, confirms ys p) (go b h)
  where
    go : (b : Bool) → MatchBool b (IsPrefix ys xs) (IsPrefix xs ys) → OneBeginsOther xs ys
    go true q = inr q
    go false q = inl q

-- what is confirmed is the mark
pub confirmed_begins : (xs j : List Event) (o : Option Event) → IsPrefix xs j → IsPrefix (take (length xs) (xs ++ option_to_list o)) j
confirmed_begins xs j o p = subst (λ l. IsPrefix l j) (sym (confirms xs o)) p
