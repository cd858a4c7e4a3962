-- What a link has taken is a prefix of the request.
use Rattle.std.proofs.Common.{arith, ◌≡◌, ℕ, Bool, false, List, [], ◌∷◌, ◌++◌, length, refl, sym, ◌∙◌, ap, subst, append_assoc, append-nil, length-append}
use Rattle.mx_link.specs.Answers.{taken, taken_by, is_read}
use Rattle.mx_link.specs.declared.answers.Answer.{Answer}
use Rattle.mx_link.specs.declared.answers.Answer.TheVariants as said
use Rattle.mx_line.specs.Order.{FollowInOrder, MayFollow, MayWrite, MayRead}
use Rattle.mx_line.specs.Laws.{TakesFront}
use Rattle.mx_line.proofs.Ordered.{taken-push, taken-same, any-same}

module _ (bytes before : List ℕ) where
  nothing_left : (more : List ℕ) → bytes ≡ before ++ [] → bytes ≡ before ++ more → more ≡ []
  nothing_left [] e f = refl
  nothing_left (x ∷ more) e f =
      let same : length (before ++ []) ≡ length (before ++ (x ∷ more)) = ap (λ (l : List ℕ). length l) (sym e ∙ f) in
      absurd (omega (arith, simp length-append at same))

module _ (reused : Bool) (bytes : List ℕ) (before : List Answer) (f : TakesFront bytes before) where
  still : (a : Answer) → taken_by a ≡ [] → is_read a ≡ false → TakesFront bytes (before ++ a ∷ [])
  still a none unread = record {
    unsent = f.unsent;
    front = f.front ∙ ap (λ (l : List ℕ). l ++ f.unsent) (sym (taken-same before a none));
    whole = λ e. f.whole (sym (any-same is_read before a unread) ∙ e);
  }

  read : (a : Answer) → taken_by a ≡ [] → MayRead reused bytes before → TakesFront bytes (before ++ a ∷ [])
  read a none may = record {
    unsent = [];
    front = sym may.1 ∙ sym (taken-same before a none) ∙ sym (append-nil (taken (before ++ a ∷ [])));
    whole = λ e. refl;
  }

  took : (piece : List ℕ) → MayWrite reused bytes before piece → TakesFront bytes (before ++ said.Took piece ∷ [])
  took piece may =
      let unsent = may.1.0 in
      record {
        unsent = unsent;
        front = may.1.1 ∙ sym (append_assoc (taken before) piece unsent) ∙ ap (λ (l : List ℕ). l ++ unsent) (sym (taken-push before (said.Took piece)));
        whole = λ e.
            let none : f.unsent ≡ [] = f.whole (sym (any-same is_read before (said.Took piece) refl) ∙ e) in
            absurd (may.1.2 (nothing_left bytes (taken before) (piece ++ unsent) (f.front ∙ ap (λ (l : List ℕ). taken before ++ l) none) may.1.1));
      }

  push : (a : Answer) → MayFollow reused bytes before a → TakesFront bytes (before ++ a ∷ [])
  push said.Connected may = still said.Connected refl refl
  push said.ConnectBlocked may = still said.ConnectBlocked refl refl
  push said.ConnectFailed may = still said.ConnectFailed refl refl
  push (said.Took piece) may = took piece may
  push said.WriteBlocked may = still said.WriteBlocked refl refl
  push said.WriteFailed may = still said.WriteFailed refl refl
  push (said.Gave piece) may = read (said.Gave piece) refl may.0
  push said.ReadBlocked may = read said.ReadBlocked refl may
  push said.ReadEnded may = read said.ReadEnded refl may
  push said.ReadFailed may = read said.ReadFailed refl may

pub front_of : (reused : Bool) (bytes : List ℕ) (before rest : List Answer) → FollowInOrder reused bytes before rest → TakesFront bytes before → TakesFront bytes (before ++ rest)
front_of reused bytes before [] h f = subst (λ (l : List Answer). TakesFront bytes l) (sym (append-nil before)) f
front_of reused bytes before (a ∷ rest) h f =
    subst (λ (l : List Answer). TakesFront bytes l) (append_assoc before (a ∷ []) rest) (front_of reused bytes (before ++ a ∷ []) rest h.2 (push reused bytes before f a h.1))

pub front_from_start : (reused : Bool) (bytes : List ℕ) (answers : List Answer) → FollowInOrder reused bytes [] answers → TakesFront bytes answers
front_from_start reused bytes answers h = front_of reused bytes [] answers h (record { unsent = bytes; front = refl; whole = λ e. cc })
