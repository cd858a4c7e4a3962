-- One answer more of a link that makes no further call before something new was reported of it.
use Rattle.std.proofs.Common.{◌≡◌, ℕ, ◌+◌, Bool, true, false, List, [], ◌∷◌, ◌++◌, length, refl, ap, sym, ◌∙◌, cond, append-nil, length-append, arith}
use Rattle.std.specs.Prelude.{if◌then◌else◌}
use Rattle.std.proofs.lemmas.List.Elements.{filter-append}
use Rattle.std.proofs.lemmas.List.Sums.{sum_by-append, sum_by-cons}
use Rattle.mx_link.specs.Answers.{given, taken, faults, is_fault, is_blocked, is_read}
use Rattle.mx_link.specs.Calls.{connect_answer, read_answer, write_answer}
use Rattle.mx_link.specs.declared.answers.Connect.{Connect}
use Rattle.mx_link.specs.declared.answers.Connect.TheVariants as connect
use Rattle.mx_link.specs.declared.answers.Read.{Read}
use Rattle.mx_link.specs.declared.answers.Read.TheVariants as read
use Rattle.mx_link.specs.declared.answers.Write.{Write}
use Rattle.mx_link.specs.declared.answers.Write.TheVariants as write
use Rattle.mx_link.specs.declared.answers.Answer.{Answer}
use Rattle.mx_link.specs.declared.answers.Answer.TheVariants as answers
use Rattle.mx_gate.specs.Ready.{telling, is_told, waits, is_short, drained, WaitsTellNothing}

-- the last answer of a kind
pub waits_last : (kind : Answer → Bool) (so : Bool) (xs : List Answer) (a : Answer)
    → waits kind so (xs ++ a ∷ []) ≡ (if kind a then is_blocked a else waits kind so xs)
waits_last kind so [] a = refl
waits_last kind so (x ∷ xs) a = waits_last kind (if kind x then is_blocked x else so) xs a

-- one call more
pub calls_more : (xs : List Answer) (ns : List ℕ) (a : Answer) (n : ℕ) → length xs ≡ length ns → length (xs ++ a ∷ []) ≡ length (ns ++ n ∷ [])
calls_more xs ns a n same = grind (arith, length-append, same)

drained_last : (so : Bool) (xs : List Answer) (ns : List ℕ) (a : Answer) (n : ℕ) → length xs ≡ length ns
    → drained so (xs ++ a ∷ []) (ns ++ n ∷ []) ≡ (if is_read a then is_short a n else drained so xs ns)
drained_last so [] [] a n same = refl
drained_last so [] (m ∷ ns) a n same = absurd (omega (arith, same))
drained_last so (x ∷ xs) [] a n same = absurd (omega (arith, same))
drained_last so (x ∷ xs) (m ∷ ns) a n same = drained_last (if is_read x then is_short x m else so) xs ns a n (omega (arith, same))

reads : (r : Read) (b : List ℕ) → is_read (read_answer r b) ≡ true
reads (read.Bytes n) b = refl
reads read.WouldBlock b = refl
reads read.End b = refl
reads read.Fault b = refl

connects : (c : Connect) → is_read (connect_answer c) ≡ false
connects connect.Done = refl
connects connect.WouldBlock = refl
connects connect.Fault = refl

writes : (w : Write) (b : List ℕ) → is_read (write_answer w b) ≡ false
writes (write.Bytes n) b = refl
writes write.WouldBlock b = refl
writes write.Fault b = refl

-- after a short read
pub drained_by_read : (xs : List Answer) (ns : List ℕ) (r : Read) (b : List ℕ) → length xs ≡ length ns → is_short (read_answer r b) (length b) ≡ true
    → drained false (xs ++ read_answer r b ∷ []) (ns ++ length b ∷ []) ≡ true
drained_by_read xs ns r b same short = let is = reads r b in drained_last false xs ns (read_answer r b) (length b) same ∙ rw is short

-- and after another call than a read
pub drained_past_connect : (xs : List Answer) (ns : List ℕ) (c : Connect) (n : ℕ) → length xs ≡ length ns → drained false xs ns ≡ true
    → drained false (xs ++ connect_answer c ∷ []) (ns ++ n ∷ []) ≡ true
drained_past_connect xs ns c n same so = let is = connects c in drained_last false xs ns (connect_answer c) n same ∙ rw is so

pub drained_past_write : (xs : List Answer) (ns : List ℕ) (w : Write) (b : List ℕ) (n : ℕ) → length xs ≡ length ns → drained false xs ns ≡ true
    → drained false (xs ++ write_answer w b ∷ []) (ns ++ n ∷ []) ≡ true
drained_past_write xs ns w b n same so = let is = writes w b in drained_last false xs ns (write_answer w b) n same ∙ rw is so

-- an answer of both
pub telling_both : (xs ys : List Answer) (a : Answer) → telling xs ≡ telling ys → telling (xs ++ a ∷ []) ≡ telling (ys ++ a ∷ [])
telling_both xs ys a same = filter-append is_told xs (a ∷ []) ∙ ap (λ l. l ++ telling (a ∷ [])) same ∙ sym (filter-append is_told ys (a ∷ []))

-- an answer of one alone, which gives nothing
pub telling_one : (xs ys : List Answer) (a : Answer) → is_blocked a ≡ true → telling xs ≡ telling ys → telling (xs ++ a ∷ []) ≡ telling ys
telling_one xs ys a blocked same =
    let none : telling (a ∷ []) ≡ [] = rw blocked refl in
    filter-append is_told xs (a ∷ []) ∙ ap (λ l. telling xs ++ l) none ∙ append-nil (telling xs) ∙ same

faults_more : (xs : List Answer) (a : Answer) → faults (xs ++ a ∷ []) ≡ faults xs + faults (a ∷ [])
faults_more xs a = sum_by-append (λ b. cond (is_fault b) 1 0) xs (a ∷ [])

pub faults_both : (xs ys : List Answer) (a : Answer) → faults xs ≡ faults ys → faults (xs ++ a ∷ []) ≡ faults (ys ++ a ∷ [])
faults_both xs ys a same = faults_more xs a ∙ ap (λ n. n + faults (a ∷ [])) same ∙ sym (faults_more ys a)

none_fails : (a : Answer) → is_blocked a ≡ true → faults (a ∷ []) ≡ 0
none_fails answers.ConnectBlocked blocked = refl
none_fails answers.ReadBlocked blocked = refl
none_fails answers.WriteBlocked blocked = refl
none_fails answers.Connected blocked = absurd (cc)
none_fails answers.ConnectFailed blocked = absurd (cc)
none_fails (answers.Gave bytes) blocked = absurd (cc)
none_fails answers.ReadEnded blocked = absurd (cc)
none_fails answers.ReadFailed blocked = absurd (cc)
none_fails (answers.Took bytes) blocked = absurd (cc)
none_fails answers.WriteFailed blocked = absurd (cc)

pub faults_one : (xs ys : List Answer) (a : Answer) → is_blocked a ≡ true → faults xs ≡ faults ys → faults (xs ++ a ∷ []) ≡ faults ys
faults_one xs ys a blocked same =
    let none = none_fails a blocked in
    let more = faults_more xs a in
    omega (arith, none, more, same)

given_told : (xs : List Answer) → given xs ≡ given (telling xs)
given_told [] = refl
given_told (answers.ConnectBlocked ∷ xs) = given_told xs
given_told (answers.ReadBlocked ∷ xs) = given_told xs
given_told (answers.WriteBlocked ∷ xs) = given_told xs
given_told (answers.Connected ∷ xs) = given_told xs
given_told (answers.ConnectFailed ∷ xs) = given_told xs
given_told (answers.Gave bytes ∷ xs) = ap (λ l. bytes ++ l) (given_told xs)
given_told (answers.ReadEnded ∷ xs) = given_told xs
given_told (answers.ReadFailed ∷ xs) = given_told xs
given_told (answers.Took bytes ∷ xs) = given_told xs
given_told (answers.WriteFailed ∷ xs) = given_told xs

taken_told : (xs : List Answer) → taken xs ≡ taken (telling xs)
taken_told [] = refl
taken_told (answers.ConnectBlocked ∷ xs) = taken_told xs
taken_told (answers.ReadBlocked ∷ xs) = taken_told xs
taken_told (answers.WriteBlocked ∷ xs) = taken_told xs
taken_told (answers.Connected ∷ xs) = taken_told xs
taken_told (answers.ConnectFailed ∷ xs) = taken_told xs
taken_told (answers.Gave bytes ∷ xs) = taken_told xs
taken_told (answers.ReadEnded ∷ xs) = taken_told xs
taken_told (answers.ReadFailed ∷ xs) = taken_told xs
taken_told (answers.Took bytes ∷ xs) = ap (λ l. bytes ++ l) (taken_told xs)
taken_told (answers.WriteFailed ∷ xs) = taken_told xs

one_more : (a : Answer) (xs ys : List Answer) → is_fault a ≡ true → faults xs ≡ faults ys → faults (a ∷ xs) ≡ faults (a ∷ ys)
one_more a xs ys fails same =
    sum_by-cons (λ b. cond (is_fault b) 1 0) a xs ∙ ap (λ n. cond (is_fault a) 1 0 + n) same ∙ sym (sum_by-cons (λ b. cond (is_fault b) 1 0) a ys)

faults_told : (xs : List Answer) → faults xs ≡ faults (telling xs)
faults_told [] = refl
faults_told (answers.ConnectBlocked ∷ xs) = faults_told xs
faults_told (answers.ReadBlocked ∷ xs) = faults_told xs
faults_told (answers.WriteBlocked ∷ xs) = faults_told xs
faults_told (answers.Connected ∷ xs) = faults_told xs
faults_told (answers.ConnectFailed ∷ xs) = one_more answers.ConnectFailed xs (telling xs) refl (faults_told xs)
faults_told (answers.Gave bytes ∷ xs) = faults_told xs
faults_told (answers.ReadEnded ∷ xs) = faults_told xs
faults_told (answers.ReadFailed ∷ xs) = one_more answers.ReadFailed xs (telling xs) refl (faults_told xs)
faults_told (answers.Took bytes ∷ xs) = faults_told xs
faults_told (answers.WriteFailed ∷ xs) = one_more answers.WriteFailed xs (telling xs) refl (faults_told xs)

pub waits_tell_nothing : WaitsTellNothing
waits_tell_nothing some others same = record {
  given = given_told some ∙ ap given same ∙ sym (given_told others);
  taken = taken_told some ∙ ap taken same ∙ sym (taken_told others);
  faults = faults_told some ∙ ap faults same ∙ sym (faults_told others);
}
