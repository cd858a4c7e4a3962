-- Reads of a script lose nothing and add nothing.
use Rattle.std.specs.Prelude.{Some, None}
use Rattle.std.specs.List.{AllByRecursion, filter_map, cons_option}
use Rattle.mx_link.specs.declared.scripted.ScriptRead.{ScriptRead}
use Rattle.mx_link.specs.declared.scripted.ScriptRead.TheVariants as read
use Rattle.std.proofs.Common.{◌≡◌, ℕ, Bool, true, false, cond, List, [], ◌∷◌, ◌++◌, suc, length, take, drop, refl, sym, ap, ◌∙◌, append_assoc, nat_le, ◌⊎◌, inl, inr, ◌==◌, arith}
use Rattle.std.proofs.lemmas.Bool.Decides.{nat_tests}
use Rattle.std.proofs.lemmas.List.{take-append-drop}
use Rattle.mx_link.specs.declared.answers.Answer.{Answer}
use Rattle.mx_link.specs.declared.answers.Answer.TheVariants as answers
use Rattle.mx_link.specs.Answers.{given, given_by}
use Rattle.mx_link.specs.Script.{planned, next_read}
use Rattle.mx_link.specs.Laws.{reads_of, ReadsLoseNothing, script_front, given_front, IsBytes, ReadsGiveTheScript}

gave : (whole : Bool) (bytes : List ℕ) (rest : List Answer) (len : ℕ) → let next = cond {A = Answer × List Answer} whole (answers.Gave bytes, rest) (answers.Gave (take len bytes), answers.Gave (drop len bytes) ∷ rest) in given_by next.0 ++ given next.1 ≡ bytes ++ given rest
gave true bytes rest len = refl
gave false bytes rest len = sym (append_assoc (take len bytes) (drop len bytes) (given rest)) ∙ ap (λ front. front ++ given rest) (take-append-drop len bytes)

-- one read
read_loses_nothing : (plan : List Answer) (len : ℕ) → given_by (next_read plan len).0 ++ given (next_read plan len).1 ≡ given plan
read_loses_nothing [] len = refl
read_loses_nothing (answers.Gave bytes ∷ rest) len = gave (nat_le (length bytes) len) bytes rest len
read_loses_nothing (answers.Connected ∷ rest) len = refl
read_loses_nothing (answers.ConnectBlocked ∷ rest) len = refl
read_loses_nothing (answers.ConnectFailed ∷ rest) len = refl
read_loses_nothing (answers.ReadBlocked ∷ rest) len = refl
read_loses_nothing (answers.ReadEnded ∷ rest) len = refl
read_loses_nothing (answers.ReadFailed ∷ rest) len = refl
read_loses_nothing (answers.Took bytes ∷ rest) len = refl
read_loses_nothing (answers.WriteBlocked ∷ rest) len = refl
read_loses_nothing (answers.WriteFailed ∷ rest) len = refl

pub reads_lose_nothing : ReadsLoseNothing
reads_lose_nothing plan [] = refl
reads_lose_nothing plan (len ∷ lens) =
    let next = next_read plan len in
    let later = reads_of next.1 lens in
    append_assoc (given_by next.0) (given later.0) (given later.1)
    ∙ ap (λ rest. given_by next.0 ++ rest) (reads_lose_nothing next.1 lens)
    ∙ read_loses_nothing plan len

-- what is planned gives what the script has
front_entry : (bytes : List ℕ) (rest : List Answer) (skipped : Bool) → (length bytes == 0) ≡ skipped → given_front (cons_option (cond skipped None (Some (answers.Gave bytes))) rest) ≡ bytes ++ given_front rest
front_entry [] rest true is = refl
front_entry (b ∷ bytes) rest true is = absurd (nonempty (length bytes) is) where
  nonempty : (n : ℕ) → (suc n == 0) ≡ true → ⊥
  nonempty n is = grind (arith, nat_tests)
front_entry bytes rest false is = refl

front_planned : (script : List ScriptRead) → given_front (filter_map planned script) ≡ script_front script
front_planned [] = refl
front_planned (read.Bytes bytes ∷ rest) = front_entry bytes.now (filter_map planned rest) (length bytes.now == 0) refl ∙ ap (λ front. bytes.now ++ front) (front_planned rest)
front_planned (read.WouldBlock ∷ rest) = refl
front_planned (read.End ∷ rest) = refl
front_planned (read.Fault ∷ rest) = refl

gave_front : (whole : Bool) (bytes : List ℕ) (rest : List Answer) (len : ℕ) → let next = cond {A = Answer × List Answer} whole (answers.Gave bytes, rest) (answers.Gave (take len bytes), answers.Gave (drop len bytes) ∷ rest) in given_front (next.0 ∷ next.1) ≡ bytes ++ given_front rest
gave_front true bytes rest len = refl
gave_front false bytes rest len = sym (append_assoc (take len bytes) (drop len bytes) (given_front rest)) ∙ ap (λ front. front ++ given_front rest) (take-append-drop len bytes)

-- one read
read_keeps_front : (plan : List Answer) (len : ℕ) → given_front ((next_read plan len).0 ∷ (next_read plan len).1) ≡ given_front plan
read_keeps_front [] len = refl
read_keeps_front (answers.Gave bytes ∷ rest) len = gave_front (nat_le (length bytes) len) bytes rest len
read_keeps_front (answers.Connected ∷ rest) len = refl
read_keeps_front (answers.ConnectBlocked ∷ rest) len = refl
read_keeps_front (answers.ConnectFailed ∷ rest) len = refl
read_keeps_front (answers.ReadBlocked ∷ rest) len = refl
read_keeps_front (answers.ReadEnded ∷ rest) len = refl
read_keeps_front (answers.ReadFailed ∷ rest) len = refl
read_keeps_front (answers.Took bytes ∷ rest) len = refl
read_keeps_front (answers.WriteBlocked ∷ rest) len = refl
read_keeps_front (answers.WriteFailed ∷ rest) len = refl

front_after : (answer : Answer) (these those : List Answer) → given_front these ≡ given_front those → given_front (answer ∷ these) ≡ given_front (answer ∷ those)
front_after (answers.Gave bytes) these those same = ap (λ front. bytes ++ front) same
front_after answers.Connected these those same = refl
front_after answers.ConnectBlocked these those same = refl
front_after answers.ConnectFailed these those same = refl
front_after answers.ReadBlocked these those same = refl
front_after answers.ReadEnded these those same = refl
front_after answers.ReadFailed these those same = refl
front_after (answers.Took bytes) these those same = refl
front_after answers.WriteBlocked these those same = refl
front_after answers.WriteFailed these those same = refl

reads_keep_front : (plan : List Answer) (lens : List ℕ) → given_front ((reads_of plan lens).0 ++ (reads_of plan lens).1) ≡ given_front plan
reads_keep_front plan [] = refl
reads_keep_front plan (len ∷ lens) =
    let next = next_read plan len in
    let later = reads_of next.1 lens in
    front_after next.0 (later.0 ++ later.1) next.1 (reads_keep_front next.1 lens) ∙ read_keeps_front plan len

-- what is left of the prefix after these answers
abbrev front_left : List Answer → List Answer → List ℕ
front_left [] left = given_front left
front_left (answers.Gave bytes ∷ rest) left = front_left rest left
front_left _ left = []

front_splits : (reads left : List Answer) → given_front reads ++ front_left reads left ≡ given_front (reads ++ left)
front_splits [] left = refl
front_splits (answers.Gave bytes ∷ rest) left = append_assoc bytes (given_front rest) (front_left rest left) ∙ ap (λ front. bytes ++ front) (front_splits rest left)
front_splits (answers.Connected ∷ rest) left = refl
front_splits (answers.ConnectBlocked ∷ rest) left = refl
front_splits (answers.ConnectFailed ∷ rest) left = refl
front_splits (answers.ReadBlocked ∷ rest) left = refl
front_splits (answers.ReadEnded ∷ rest) left = refl
front_splits (answers.ReadFailed ∷ rest) left = refl
front_splits (answers.Took bytes ∷ rest) left = refl
front_splits (answers.WriteBlocked ∷ rest) left = refl
front_splits (answers.WriteFailed ∷ rest) left = refl

front_whole : (reads left : List Answer) → AllByRecursion IsBytes reads ⊎ (front_left reads left ≡ [])
front_whole [] left = inl tt
front_whole (answers.Gave bytes ∷ rest) left = elim (front_whole rest left) [
  | inl all ↦ inl (tt, all)
  | inr none ↦ inr none
]
front_whole (answers.Connected ∷ rest) left = inr refl
front_whole (answers.ConnectBlocked ∷ rest) left = inr refl
front_whole (answers.ConnectFailed ∷ rest) left = inr refl
front_whole (answers.ReadBlocked ∷ rest) left = inr refl
front_whole (answers.ReadEnded ∷ rest) left = inr refl
front_whole (answers.ReadFailed ∷ rest) left = inr refl
front_whole (answers.Took bytes ∷ rest) left = inr refl
front_whole (answers.WriteBlocked ∷ rest) left = inr refl
front_whole (answers.WriteFailed ∷ rest) left = inr refl

pub reads_give_the_script : ReadsGiveTheScript
reads_give_the_script script lens =
    let plan = filter_map planned script in
    let read = reads_of plan lens in
    record {
      later = front_left read.0 read.1;
      joined = front_splits read.0 read.1 ∙ reads_keep_front plan lens ∙ front_planned script;
      whole = front_whole read.0 read.1;
    }
