-- What is left of a list that is being read.
use Rattle.std.proofs.Common.{◌≡◌, ℕ, suc, ◌+◌, ◌<◌, ◌≤◌, List, ◌∷◌, ◌++◌, length, take, drop, get_or, refl, sym, ap, ◌∙◌, arith, add-one, drop-cons}
use Rattle.std.specs.Prelude.{Option, Some, None, option_map}
use Rattle.std.proofs.lemmas.List.{length-take-le, get_or-take}
use Rattle.mx_save_rules.specs.declared.entry.Entry.{Entry}
use Rattle.mx_save_rules.specs.declared.open_line.OpenLine.{OpenLine}
use Rattle.mx_save_rules.specs.Entries.{Told}
use Rattle.mx_save_rules.specs.Left.{entries_after, then}

-- alike, whatever is known
pub map_alike : (known : Option (List ℕ)) (f g : List ℕ → List Told) → ((xs : List ℕ) → f xs ≡ g xs) → option_map f known ≡ option_map g known
map_alike None f g same = refl
map_alike (Some xs) f g same = ap Some (same xs)

-- what is held where a byte wasn't looked at yet
held_one : (buffer : List ℕ) (start end : ℕ) → start < end → end ≤ length buffer
    → drop start (take end buffer) ≡ get_or buffer start 0 ∷ drop (start + 1) (take end buffer)
held_one buffer start end less room =
    let within : start < length (take end buffer) = omega (arith, length-take-le end buffer room, less) in
    rw add-one (drop-cons (take end buffer) start 0 within ∙ ap (λ b. b ∷ drop (suc start) (take end buffer)) (get_or-take end buffer start 0 less))

-- a byte is taken in
pub took : (line line' : OpenLine) (buffer : List ℕ) (start end byte : ℕ) (said : Option Entry) → start < end → end ≤ length buffer → byte ≡ get_or buffer start 0
    → ((rest : List ℕ) → entries_after line (byte ∷ rest) ≡ then said (entries_after line' rest))
    → (rest : List ℕ) → entries_after line (drop start (take end buffer) ++ rest) ≡ then said (entries_after line' (drop (start + 1) (take end buffer) ++ rest))
took line line' buffer start end byte said less room is step rest =
    ap (λ h. entries_after line (h ++ rest)) (held_one buffer start end less room)
    ∙ ap (λ b. entries_after line (b ∷ (drop (start + 1) (take end buffer) ++ rest))) (sym is)
    ∙ step (drop (start + 1) (take end buffer) ++ rest)
