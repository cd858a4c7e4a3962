-- One call more of a link over the addresses of a host.
use Rattle.std.proofs.Common.{◌≡◌, ◌<◌, ℕ, Bool, true, false, ◌&&◌, List, [], ◌∷◌, ◌++◌, ◌⊎◌, length, refl, ap, sym, ◌∙◌, append-nil, append_assoc, length-append, inl, inr, arith}
use Rattle.std.specs.declared.net.SocketAddr.{SocketAddr}
use Rattle.mx_link.specs.Answers.{faults}
use Rattle.mx_link.specs.Calls.{connect_answer, read_answer, write_answer}
use Rattle.mx_link.specs.declared.answers.Connect.{Connect}
use Rattle.mx_link.specs.declared.answers.Connect.TheVariants as connect
use Rattle.mx_link.specs.declared.answers.Read.{Read}
use Rattle.mx_link.specs.declared.answers.Read.TheVariants as read
use Rattle.mx_link.specs.declared.answers.Write.{Write}
use Rattle.mx_link.specs.declared.answers.Write.TheVariants as write
use Rattle.mx_link.specs.declared.answers.Answer.{Answer}
use Rattle.mx_link.specs.declared.answers.Answer.TheVariants as answers
use Rattle.mx_gate.specs.Dialling.{is_unmade, is_connecting, DialsNext}
use Rattle.mx_gate.proofs.ReadyLemmas as ready

-- nothing is dialled
pub dials_none : (was left : List SocketAddr) → DialsNext was left was left
dials_none was left = record { next = []; dialled = sym (append-nil was); taken = refl }

-- and then the next
pub dials_more : (was left is rest is_now rest_now : List SocketAddr) (a : SocketAddr)
    → DialsNext was left is rest → rest ≡ a ∷ rest_now → is_now ≡ is ++ a ∷ [] → DialsNext was left is_now rest_now
dials_more was left is rest is_now rest_now a d begins more = record {
  next = d.next ++ a ∷ [];
  dialled = more ∙ ap (λ l. l ++ a ∷ []) d.dialled ∙ append_assoc was d.next (a ∷ []);
  taken = d.taken ∙ ap (λ l. d.next ++ l) begins ∙ sym (append_assoc d.next (a ∷ []) rest_now);
}

-- what was dialled from none on, and what is left
pub dialled_all : (was left is rest : List SocketAddr) → DialsNext was left is rest → was ≡ [] → is ++ rest ≡ left
dialled_all was left is rest d none = ap (λ l. l ++ rest) (d.dialled ∙ ap (λ l. l ++ d.next) none) ∙ sym d.taken

pub dialled_some : (was left is rest : List SocketAddr) → DialsNext was left is rest → length rest < length left → 0 < length is
dialled_some was left is rest d fewer =
    let all : length left ≡ length (d.next ++ rest) = ap length d.taken in
    let now : length is ≡ length (was ++ d.next) = ap length d.dialled in
    omega (arith, fewer, all, now, length-append d.next rest, length-append was d.next)

and_true : (b : Bool) → (b && true) ≡ b
and_true true = refl
and_true false = refl

pub connecting_last : (h : List Answer) (a : Answer) → is_connecting (h ++ a ∷ []) ≡ (is_connecting h && is_unmade a)
connecting_last [] a = and_true (is_unmade a)
connecting_last (x ∷ h) a = elim (is_unmade x) as (λ b. (b && is_connecting (h ++ a ∷ [])) ≡ ((b && is_connecting h) && is_unmade a)) [
  | true ↦ connecting_last h a
  | false ↦ refl
]

and_false : (b : Bool) → (b && false) ≡ false
and_false true = refl
and_false false = refl

read_unmade : (r : Read) (b : List ℕ) → is_unmade (read_answer r b) ≡ false
read_unmade (read.Bytes n) b = refl
read_unmade read.WouldBlock b = refl
read_unmade read.End b = refl
read_unmade read.Fault b = refl

write_unmade : (w : Write) (b : List ℕ) → is_unmade (write_answer w b) ≡ false
write_unmade (write.Bytes n) b = refl
write_unmade write.WouldBlock b = refl
write_unmade write.Fault b = refl

pub unconnecting_read : (h : List Answer) (r : Read) (b : List ℕ) → false ≡ is_connecting (h ++ read_answer r b ∷ [])
unconnecting_read h r b = sym (connecting_last h (read_answer r b) ∙ ap (λ u. is_connecting h && u) (read_unmade r b) ∙ and_false (is_connecting h))

pub unconnecting_write : (h : List Answer) (w : Write) (b : List ℕ) → false ≡ is_connecting (h ++ write_answer w b ∷ [])
unconnecting_write h w b = sym (connecting_last h (write_answer w b) ∙ ap (λ u. is_connecting h && u) (write_unmade w b) ∙ and_false (is_connecting h))

none_failed : (h : List Answer) → is_connecting h ≡ true → faults h ≡ 0
none_failed [] is = refl
none_failed (answers.ConnectBlocked ∷ h) is = none_failed h is
none_failed (answers.Connected ∷ h) is = absurd (cc)
none_failed (answers.ConnectFailed ∷ h) is = absurd (cc)
none_failed (answers.Gave bytes ∷ h) is = absurd (cc)
none_failed (answers.ReadBlocked ∷ h) is = absurd (cc)
none_failed (answers.ReadEnded ∷ h) is = absurd (cc)
none_failed (answers.ReadFailed ∷ h) is = absurd (cc)
none_failed (answers.Took bytes ∷ h) is = absurd (cc)
none_failed (answers.WriteBlocked ∷ h) is = absurd (cc)
none_failed (answers.WriteFailed ∷ h) is = absurd (cc)

pub faults_both : (xs ys : List Answer) (a : Answer) → faults xs ≡ faults ys → faults (xs ++ a ∷ []) ≡ faults (ys ++ a ∷ [])
faults_both = ready.faults_both

-- the link answered so, or a new one that has answered nothing is in its place
pub faults_asked : (h old new : List Answer) (c : Connect) (b : Bool) → b ≡ is_connecting h → faults h ≡ faults old
    → (new ≡ old ++ connect_answer c ∷ []) ⊎ ((b ≡ true) × (c ≡ connect.WouldBlock) × (new ≡ []))
    → faults (h ++ connect_answer c ∷ []) ≡ faults new
faults_asked h old new c b is same (inl one) = faults_both h old (connect_answer c) same ∙ sym (ap faults one)
faults_asked h old new c b is same (inr (on, blocked, none)) =
    let connecting : is_connecting (h ++ answers.ConnectBlocked ∷ []) ≡ true = connecting_last h answers.ConnectBlocked ∙ and_true (is_connecting h) ∙ sym is ∙ on in
    ap (λ k. faults (h ++ connect_answer k ∷ [])) blocked ∙ none_failed (h ++ answers.ConnectBlocked ∷ []) connecting ∙ sym (ap faults none)
