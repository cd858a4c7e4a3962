-- Bytes that are held for a write.
use Rattle.std.proofs.Common.{◌≡◌, ℕ, ◌+◌, ◌<◌, List, [], ◌∷◌, ◌++◌, length, take, get_or, slice_range, refl, sym, ap, subst, ◌∙◌, append_assoc, append-nil}
use Rattle.std.specs.Prelude.{Option}
use Rattle.std.specs.Io.KnownBytes.{Appends}
use Rattle.std.proofs.KnownBytes.{Appends-nil, Appends-trans}
use Rattle.std.proofs.lemmas.List.{take_more}
use Rattle.std.proofs.lemmas.Grind.{flat_map-append}
use Rattle.mx_body.specs.declared.part.Part.{Part}
use Rattle.mx_body.specs.Parts.{joined}
use Rattle.mx_run_local.specs.BodyTexts.{Holds}

-- nothing is written
pub holds_itself : (old : Option (List ℕ)) (text : List ℕ) → Holds (Appends old old) text text
holds_itself old text = record { front = []; written = Appends-nil old; is = refl }

-- after what is held comes a piece
pub holds_on : (old mid new : Option (List ℕ)) (text held piece next : List ℕ) → Holds (Appends old mid) text held → Holds (Appends mid new) (held ++ piece) next
    → Holds (Appends old new) (text ++ piece) next
holds_on old mid new text held piece next a b = record {
  front = a.front ++ b.front;
  written = Appends-trans old mid new a.front b.front a.written b.written;
  is = ap (λ (t : List ℕ). t ++ piece) a.is ∙ append_assoc a.front held piece ∙ ap (λ (t : List ℕ). a.front ++ t) b.is
      ∙ sym (append_assoc a.front b.front next);
}

-- what is held is written
pub holds_all : (old mid new : Option (List ℕ)) (text held : List ℕ) → Holds (Appends old mid) text held → Appends mid new held → Appends old new text
holds_all old mid new text held a more = subst (Appends old new) (sym a.is) (Appends-trans old mid new a.front held a.written more)

-- the pieces up to the next
pub joined_more : (input : List ℕ) (parts : List Part) (i : ℕ) (d : Part) → i < length parts
    → joined input (take (i + 1) parts) ≡ joined input (take i parts) ++ slice_range input (get_or parts i d).start (get_or parts i d).end
joined_more input parts i d within =
    ap (joined input) (take_more parts i d within)
    ∙ flat_map-append (λ (p : Part). slice_range input p.start p.end) (take i parts) (get_or parts i d ∷ [])
    ∙ ap (λ (t : List ℕ). joined input (take i parts) ++ t) (append-nil (slice_range input (get_or parts i d).start (get_or parts i d).end))
