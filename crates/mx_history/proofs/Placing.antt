-- Receipts stay placed as the journal grows, and a new one is placed at its end.
use Rattle.std.proofs.Common.{◌≡◌, inl, inr, ℕ, zero, suc, ◌+◌, ◌-◌, ◌<◌, ◌≤◌, ◌∙◌, sym, refl, ap, subst, List, [], ◌∷◌, ◌++◌, append-nil, append_assoc, length, length-append, Bool, true, false, cond, map, arith}
use Rattle.std.specs.Prelude.{take, drop, slice_get, Option, Some, None}
use Rattle.std.specs.List.{AllByRecursion, cons_option}
use Rattle.std.specs.Option.{is_some, option_to_list}
use Rattle.std.proofs.lemmas.Bool.{false≢true, eq-eqb}
use Rattle.std.proofs.lemmas.List.Elements.{filter-append, filter_map-append}
use Rattle.std.proofs.lemmas.List.Sums.{length-filter, sum_by-append}
use Rattle.mx_types.specs.declared.event.Who.{Who}
use Rattle.mx_types.specs.declared.event.Who.TheVariants as maker
use Rattle.mx_types.specs.declared.event.What.{What}
use Rattle.mx_types.specs.declared.event.Event.{Event}
use Rattle.mx_types.specs.declared.call.Call.{Call}
use Rattle.mx_types.specs.declared.call.Receipt.{Receipt}
use Rattle.mx_types.specs.declared.reply.Reply.{Reply}
use Rattle.mx_types.specs.declared.reply.Reply.TheVariants as reply
use Rattle.mx_history.specs.History.{Opening, same_maker, made_by}
use Rattle.mx_history.specs.Answers.{answer, Answers, is_ready}
use Rattle.mx_history.specs.Receipts.{comes_with_event, is_poll, mark, Fits, FitInTurn, CutsRise, with_events, events_of, events_by, IsPlaced}
use Rattle.mx_history.specs.Laws.{HasAtMostOneMore, CallAddsAtMostOne, PlacedStays, CallIsPlaced, FirstIsPlaced}
use Rattle.mx_history.proofs.Lists.{Each-map, Each-append}
use Rattle.mx_history.proofs.ReceiptLaws.{fits_by_its_cut}
use Rattle.mx_history.proofs.AnswersFit.{answers_fit, tells}

-- 1. Lists that grow.

take_more : (j rest : List Event) (c : ℕ) → c ≤ length j → take c (j ++ rest) ≡ take c j
take_more j rest zero le = refl
take_more [] rest (suc c) le = absurd (omega arith)
take_more (x ∷ j) rest (suc c) le = ap (λ t. x ∷ t) (take_more j rest c (omega arith))

drop_more : (j rest : List Event) (n : ℕ) → n ≤ length j → drop n (j ++ rest) ≡ drop n j ++ rest
drop_more j rest zero le = refl
drop_more [] rest (suc n) le = absurd (omega arith)
drop_more (x ∷ j) rest (suc n) le = drop_more j rest n (omega arith)

drop_all : (j : List Event) → drop (length j) j ≡ []
drop_all [] = refl
drop_all (x ∷ j) = drop_all j

get_more : (j rest : List Event) (i : ℕ) → i < length j → slice_get (j ++ rest) i ≡ slice_get j i
get_more [] rest i lt = absurd (omega arith)
get_more (x ∷ j) rest zero lt = refl
get_more (x ∷ j) rest (suc i) lt = get_more j rest i (omega arith)

get_next : (j : List Event) (e : Event) → slice_get (j ++ e ∷ []) (length j) ≡ Some e
get_next [] e = refl
get_next (x ∷ j) e = get_next j e

made_more : (w : Who) (j rest : List Event) → made_by w (j ++ rest) ≡ made_by w j + made_by w rest
made_more w j rest = sum_by-append (λ (e : Event). cond (same_maker e.who w) 1 0) j rest

empty : {X : Type 0} (xs : List X) → length xs ≡ 0 → xs ≡ []
empty [] e = refl
empty (x ∷ xs) e = absurd (omega arith)

by_none : (w : Who) (rest : List Event) → made_by w rest ≡ 0 → events_by w rest ≡ []
by_none w rest none = empty (events_by w rest) (length-filter (λ (e : Event). same_maker e.who w) rest ∙ none)

-- 2. Receipts in a longer journal.

abbrev Within : List Event → List Receipt → Type 0
Within j mine = AllByRecursion (λ (r : Receipt). r.cut ≤ length j) mine

fit_later : (opening : Opening) (w : Who) (earlier mine : List Receipt) (j rest : List Event) → Within j mine → FitInTurn opening w earlier mine j → FitInTurn opening w earlier mine (j ++ rest)
fit_later opening w earlier [] j rest in_ f = tt
fit_later opening w earlier (r ∷ mine) j rest in_ f = (fits_by_its_cut opening w earlier r j (j ++ rest) (sym (take_more j rest r.cut in_.0)) f.0, fit_later opening w (earlier ++ r ∷ []) mine j rest in_.1 f.1)

within_later : (j rest : List Event) (mine : List Receipt) → Within j mine → Within (j ++ rest) mine
within_later j rest mine in_ = Each-map (λ (r : Receipt). r.cut ≤ length j) (λ (r : Receipt). r.cut ≤ length (j ++ rest)) (λ r le. omega (arith, le, length-append j rest)) mine in_

-- the events of receipts with an event are within the journal
inside : (opening : Opening) (w : Who) (earlier mine : List Receipt) (j : List Event) → Within j mine → FitInTurn opening w earlier mine j → AllByRecursion (λ (r : Receipt). r.cut - 1 < length j) (with_events mine)
inside opening w earlier [] j in_ f = tt
inside opening w earlier (r ∷ mine) j in_ f = go (comes_with_event r.reply) refl (inside opening w (earlier ++ r ∷ []) mine j in_.1 f.1)
  where
    go : (b : Bool) → comes_with_event r.reply ≡ b → AllByRecursion (λ (x : Receipt). x.cut - 1 < length j) (with_events mine) → AllByRecursion (λ (x : Receipt). x.cut - 1 < length j) (cond b (r ∷ with_events mine) (with_events mine))
    go true is rest = let a = (f.0.with_event is).above in let le = in_.0 in (omega arith, rest)
    go false is rest = rest

events_later : (rs : List Receipt) (j rest : List Event) → AllByRecursion (λ (r : Receipt). r.cut - 1 < length j) rs → events_of rs (j ++ rest) ≡ events_of rs j
events_later [] j rest a = refl
events_later (r ∷ rs) j rest a = ap (λ q. cons_option q (events_of rs (j ++ rest))) (get_more j rest (r.cut - 1) a.0) ∙ ap (cons_option (slice_get j (r.cut - 1))) (events_later rs j rest a.1)

placed_later : (opening : Opening) (w : Who) (mine : List Receipt) (j rest : List Event) → IsPlaced opening w mine j → made_by w (j ++ rest) ≡ made_by w j → IsPlaced opening w mine (j ++ rest)
placed_later opening w mine j rest p same =
    let none : made_by w rest ≡ 0 = omega (arith, made_more w j rest, same) in
    record {
      fit = fit_later opening w [] mine j rest p.within p.fit;
      within = within_later j rest mine p.within;
      begun = omega (arith, p.begun, length-append j rest);
      rise = p.rise;
      each_once = ap (events_by w) (drop_more j rest opening.from p.begun) ∙ filter-append (λ (e : Event). same_maker e.who w) (drop opening.from j) rest ∙ ap (λ l. events_by w (drop opening.from j) ++ l) (by_none w rest none) ∙ append-nil (events_by w (drop opening.from j)) ∙ p.each_once
          ∙ sym (events_later (with_events mine) j rest (inside opening w [] mine j p.within p.fit));
    }

pub placed_stays : PlacedStays
placed_stays opening w mine j k p pre same =
    subst (IsPlaced opening w mine) pre.1 (placed_later opening w mine j pre.0 p (ap (made_by w) pre.1 ∙ same))

-- 3. One receipt more.

fit_more : (opening : Opening) (w : Who) (earlier mine : List Receipt) (r : Receipt) (j : List Event) → FitInTurn opening w earlier mine j → Fits opening w (earlier ++ mine) r j → FitInTurn opening w earlier (mine ++ r ∷ []) j
fit_more opening w earlier [] r j f new = (subst (λ l. Fits opening w l r j) (append-nil earlier) new, tt)
fit_more opening w earlier (x ∷ mine) r j f new = (f.0, fit_more opening w (earlier ++ x ∷ []) mine r j f.1 (subst (λ l. Fits opening w l r j) (sym (append_assoc earlier (x ∷ []) mine)) new))

rise_more : (cut n : ℕ) (mine : List Receipt) (r : Receipt) → AllByRecursion (λ (x : Receipt). x.cut ≤ n) mine → cut ≤ n → n ≤ r.cut → (comes_with_event r.reply ≡ true → n < r.cut) → CutsRise cut mine → CutsRise cut (mine ++ r ∷ [])
rise_more cut n [] r in_ le at up h = (omega arith, λ is. let lt = up is in omega arith, tt)
rise_more cut n (x ∷ mine) r in_ le at up h = (h.0, h.1, rise_more x.cut n mine r in_.1 in_.0 at up h.2)

events_with : (mine : List Receipt) (r : Receipt) (b : Bool) → comes_with_event r.reply ≡ b → with_events (mine ++ r ∷ []) ≡ with_events mine ++ cond b (r ∷ []) []
events_with mine r b is = filter-append (λ (x : Receipt). comes_with_event x.reply) mine (r ∷ []) ∙ ap (λ c. with_events mine ++ cond c (r ∷ []) []) is

-- a receipt without an event
placed_quiet : (opening : Opening) (w : Who) (mine : List Receipt) (r : Receipt) (j : List Event) → IsPlaced opening w mine j → r.cut ≡ length j → comes_with_event r.reply ≡ false → Fits opening w mine r j → IsPlaced opening w (mine ++ r ∷ []) j
placed_quiet opening w mine r j p at quiet f = record {
  fit = fit_more opening w [] mine r j p.fit f;
  within = Each-append (λ (x : Receipt). x.cut ≤ length j) mine (r ∷ []) p.within ((omega (arith, at)), tt);
  begun = p.begun;
  rise = rise_more opening.from (length j) mine r p.within p.begun (omega (arith, at)) (λ is. absurd (false≢true (sym quiet ∙ is))) p.rise;
  each_once = p.each_once ∙ ap (λ rs. events_of rs j) (sym (events_with mine r false quiet ∙ append-nil (with_events mine)));
}

-- a receipt with the event that its call added
placed_event : (opening : Opening) (w : Who) (mine : List Receipt) (r : Receipt) (j : List Event) (e : Event) → IsPlaced opening w mine j → r.cut ≡ length (j ++ e ∷ []) → comes_with_event r.reply ≡ true → same_maker e.who w ≡ true
    → Fits opening w mine r (j ++ e ∷ []) → IsPlaced opening w (mine ++ r ∷ []) (j ++ e ∷ [])
placed_event opening w mine r j e p at made own f =
    let k : List Event = j ++ e ∷ [] in
    let long : length k ≡ length j + 1 = length-append j (e ∷ []) in
    let before : r.cut - 1 ≡ length j = omega (arith, at, long) in
    let last : events_of (r ∷ []) k ≡ e ∷ [] = ap (λ q. cons_option q []) (ap (slice_get k) before ∙ get_next j e) in
    let mine' : events_by w (e ∷ []) ≡ e ∷ [] = ap (λ b. cond b (e ∷ []) []) own in
    let in_ = inside opening w [] mine j p.within p.fit in
    record {
      fit = fit_more opening w [] mine r k (fit_later opening w [] mine j (e ∷ []) p.within p.fit) f;
      within = Each-append (λ (x : Receipt). x.cut ≤ length k) mine (r ∷ []) (within_later j (e ∷ []) mine p.within) ((omega (arith, at)), tt);
      begun = omega (arith, p.begun, long);
      rise = rise_more opening.from (length j) mine r p.within p.begun (omega (arith, at, long)) (λ _. omega (arith, at, long)) p.rise;
      each_once = ap (events_by w) (drop_more j (e ∷ []) opening.from p.begun) ∙ filter-append (λ (x : Event). same_maker x.who w) (drop opening.from j) (e ∷ []) ∙ ap (λ l. events_by w (drop opening.from j) ++ l) mine' ∙ ap (λ l. l ++ e ∷ []) (p.each_once ∙ sym (events_later (with_events mine) j (e ∷ []) in_))
          ∙ ap (λ l. events_of (with_events mine) k ++ l) (sym last) ∙ sym (filter_map-append (λ (x : Receipt). slice_get k (x.cut - 1)) (with_events mine) (r ∷ []))
          ∙ ap (λ rs. events_of rs k) (sym (events_with mine r true made));
    }

-- 4. A call's answer.

abbrev MadeBy : Who → Option What → List Event
MadeBy w o = map (λ e. record { who = w; what = e }) (option_to_list o)

own : (w : Who) → same_maker w w ≡ true
own (maker.Seat n) = eq-eqb n n refl
own (maker.Worker n) = eq-eqb n n refl

one_more : (w : Who) (o : Option What) (j k : List Event) → k ≡ j ++ MadeBy w o → HasAtMostOneMore w j k
one_more w None j k e = inl (e ∙ append-nil j)
one_more w (Some x) j k e = inr (x, e)

pub call_adds_at_most_one : CallAddsAtMostOne
call_adds_at_most_one opening w call reply.OutOfMemory j k a = inl a.1
call_adds_at_most_one opening w call r j k a = one_more w (answer opening j call).1 j k a.1

answered_by : (opening : Opening) (w : Who) (mine : List Receipt) (j k : List Event) (call : Call) (r : Reply) (o : Option What) → IsPlaced opening w mine j → k ≡ j ++ MadeBy w o → comes_with_event r ≡ is_some o
    → Fits opening w mine (record { cut = length k; call = call; reply = r }) k → IsPlaced opening w (mine ++ record { cut = length k; call = call; reply = r } ∷ []) k
answered_by opening w mine j k call r None p e comes f =
    let same : k ≡ j = e ∙ append-nil j in
    let q : IsPlaced opening w mine k = subst (IsPlaced opening w mine) (sym same) p in
    placed_quiet opening w mine (record { cut = length k; call = call; reply = r }) k q refl comes f
answered_by opening w mine j k call r (Some x) p e comes f =
    let y : Event = record { who = w; what = x } in
    let P : List Event → Type 0 = λ l. Fits opening w mine (record { cut = length l; call = call; reply = r }) l → IsPlaced opening w (mine ++ record { cut = length l; call = call; reply = r } ∷ []) l in
    subst P (sym e) (λ g. placed_event opening w mine (record { cut = length (j ++ y ∷ []); call = call; reply = r }) j y p refl comes (own w) g) f

placed_at : (opening : Opening) (w : Who) (mine : List Receipt) (j k : List Event) (call : Call) (r : Reply) → IsPlaced opening w mine j → Answers opening w call j r k → (is_poll call ≡ true → is_ready (mark opening.from mine) k ≡ true)
    → IsPlaced opening w (mine ++ record { cut = length k; call = call; reply = r } ∷ []) k
placed_at opening w mine j k call reply.OutOfMemory p a ready =
    answered_by opening w mine j k call reply.OutOfMemory None p (a.1 ∙ sym (append-nil j)) refl (answers_fit opening w mine call reply.OutOfMemory j k a ready)
placed_at opening w mine j k call r p a ready =
    answered_by opening w mine j k call r (answer opening j call).1 p a.1 (ap comes_with_event a.0 ∙ (tells opening j call).0) (answers_fit opening w mine call r j k a ready)

pub call_is_placed : CallIsPlaced
call_is_placed opening w mine seen j k call r p pre same a ready = placed_at opening w mine j k call r (placed_stays opening w mine seen j p pre same) a ready

pub first_is_placed : FirstIsPlaced
first_is_placed opening w j is = record {
  fit = tt;
  within = tt;
  begun = omega (arith, is);
  rise = tt;
  each_once = ap (λ n. events_by w (drop n j)) is ∙ ap (events_by w) (drop_all j);
}
