-- Progress never falls.
use Rattle.std.proofs.Common.{◌≡◌, ℕ, ◌<◌, ◌≤◌, ◌∙◌, ◌⊎◌, inl, inr, sym, refl, ap, subst, List, [], ◌∷◌, ◌++◌, Bool, true, false, cond, max, arith}
use Rattle.std.proofs.Math.Nat.{le-max_left, le-max_right}
use Rattle.std.specs.Prelude.{◌==◌, nat_lt, Option, Some, None}
use Rattle.std.specs.Option.{is_some, unwrap_or}
use Rattle.std.proofs.lemmas.Bool.{cases_Bool, eqb-true, eqb-false, ltb-true, false≢true}
use Rattle.mx_types.specs.declared.names.HandleId.{HandleId}
use Rattle.mx_types.specs.declared.names.Ticket.{Ticket}
use Rattle.mx_types.specs.declared.event.Event.{Event}
use Rattle.mx_journal.specs.History.{is_legal}
use Rattle.mx_journal.specs.Slots.{slot_of}
use Rattle.mx_history.proofs.SlotStaying.{slot_stays}
use Rattle.mx_board.specs.declared.note.Note.{Note}
use Rattle.mx_board.specs.Progress.{NoteState, greatest, note, word_of}
use Rattle.mx_board.specs.declared.answer.Progress.{Progress}
use Rattle.mx_board.specs.declared.answer.Progress.TheVariants as progress
use Rattle.mx_multi.specs.Progress.{IsProgress, ProgressNeverFalls, SaysAdded}

same_number : (n : ℕ) → (n == n) ≡ true
same_number n = elim (cases_Bool (n == n)) [ inl e ↦ e | inr off ↦ absurd (eqb-false n n off refl) ]

over_both : (a b c : ℕ) → c ≤ b → c ≤ max a b
over_both a b c h = omega (arith, h, le-max_right a b)

-- what was read for a slot is no more than the greatest
among_read : (k x : ℕ) (before more : List Note) → x ≤ greatest k ((before ++ note k x ∷ []) ++ more)
among_read k x [] more = subst (λ (b : Bool). x ≤ max (cond b x 0) (greatest k more)) (sym (same_number k)) (le-max_left x (greatest k more))
among_read k x (y ∷ before) more = over_both (cond (y.slot == k) y.word 0) (greatest k ((before ++ note k x ∷ []) ++ more)) x (among_read k x before more)

abbrev told : Progress → Option (Ticket × ℕ)
told (progress.Bytes t n) = Some (t, n)
told _ = None

-- what a count says of the word
record IsCount (t u v : Ticket) (n k : ℕ) : Type 0 where
  same : t ≡ u
  count : ((v.0 ≡ u.0) × (n ≡ k)) ⊎ ((v.0 < u.0) × (n ≡ 0))

counted : (t u v : Ticket) (n k : ℕ) (a b : Bool) → (v.0 == u.0) ≡ a → nat_lt v.0 u.0 ≡ b → progress.Bytes t n ≡ cond a (progress.Bytes u k) (cond b (progress.Bytes u 0) progress.Replaced) → IsCount t u v n k
counted t u v n k true b e f h =
    record { same = ap (λ p. (unwrap_or (told p) (t, n)).0) h; count = inl (eqb-true v.0 u.0 e, ap (λ p. (unwrap_or (told p) (t, n)).1) h) }
counted t u v n k false true e f h =
    record { same = ap (λ p. (unwrap_or (told p) (t, n)).0) h; count = inr (ltb-true v.0 u.0 f, ap (λ p. (unwrap_or (told p) (t, n)).1) h) }
counted t u v n k false false e f h = absurd (false≢true (sym (ap (λ p. is_some (told p)) h)))

-- greater words of one ticket have greater counts, and an older ticket's word is less
no_less : (t u v : Ticket) (n m k l : ℕ) → u.0 ≡ t.0 → n ≡ k → word_of u k ≤ word_of v l → l < 4294967296 → ((v.0 ≡ t.0) × (m ≡ l)) ⊎ ((v.0 < t.0) × (m ≡ 0)) → n ≤ m
no_less t u v n m k l at is less fits (inl same) = let a = same.0 in let b = same.1 in omega (arith, at, is, less, a, b)
no_less t u v n m k l at is less fits (inr older) = let a = older.0 in absurd (omega (arith, at, is, less, fits, a))

falls_not : (h g : HandleId) (j more : List Event) (a b c d : NoteState) (since : List Note) (t : Ticket) (n m : ℕ) → is_legal (j ++ more) ≡ true → c.read ≡ b.read ++ since
    → SaysAdded h j a b (progress.Bytes t n) → SaysAdded g (j ++ more) c d (progress.Bytes t m) → n ≤ m
falls_not h g j more a b c d since t n m legal read x y =
    let p = counted t x.ticket x.word.of n x.word.count _ _ refl refl x.word.says in
    let q = counted t y.ticket y.word.of m y.word.count _ _ refl refl y.word.says in
    go p.count q.count p.same q.same
  where
    go : ((x.word.of.0 ≡ x.ticket.0) × (n ≡ x.word.count)) ⊎ ((x.word.of.0 < x.ticket.0) × (n ≡ 0)) → ((y.word.of.0 ≡ y.ticket.0) × (m ≡ y.word.count)) ⊎ ((y.word.of.0 < y.ticket.0) × (m ≡ 0))
        → t ≡ x.ticket → t ≡ y.ticket → n ≤ m
    go (inr none) other one two = let z = none.1 in omega (arith, z)
    go (inl some) other one two =
        let slot : x.slot ≡ y.slot = slot_stays j more t x.slot y.slot legal (ap (λ u. slot_of u j) one ∙ x.at) (ap (λ u. slot_of u (j ++ more)) two ∙ y.at) in
        let all : c.read ≡ (a.read ++ note x.slot (word_of x.word.of x.word.count) ∷ []) ++ since = read ∙ ap (λ (s : NoteState). s.read ++ since) x.word.read in
        let within : word_of x.word.of x.word.count ≤ greatest y.slot c.read =
        subst (λ k. word_of x.word.of x.word.count ≤ greatest k c.read) slot
        (subst (λ l. word_of x.word.of x.word.count ≤ greatest x.slot l) (sym all) (among_read x.slot (word_of x.word.of x.word.count) a.read since)) in
        let less : word_of x.word.of x.word.count ≤ word_of y.word.of y.word.count = omega (arith, within, y.word.word.read) in
        no_less y.ticket x.word.of y.word.of n m x.word.count y.word.count (some.0 ∙ ap (λ (u : Ticket). u.0) (sym one ∙ two)) some.1 less y.word.fits other

never_falls_by : (h g : HandleId) (j more : List Event) (a b c d : NoteState) (since : List Note) (t : Ticket) (n m : ℕ) → is_legal (j ++ more) ≡ true → c.read ≡ b.read ++ since
    → IsProgress h j a b (progress.Bytes t n) → IsProgress g (j ++ more) c d (progress.Bytes t m) → n ≤ m
never_falls_by h g j more a b c d since t n m legal read (inl none) two = absurd (false≢true (sym (ap (λ p. is_some (told p)) none.1)))
never_falls_by h g j more a b c d since t n m legal read (inr one) (inl none) = absurd (false≢true (sym (ap (λ p. is_some (told p)) none.1)))
never_falls_by h g j more a b c d since t n m legal read (inr one) (inr two) = falls_not h g j more a b c d since t n m legal read one two

pub never_falls : ProgressNeverFalls
never_falls = never_falls_by
