-- What is written to a part, one write after the other.
use Rattle.std.proofs.Common.{◌≡◌, ℕ, ◌≤◌, ◌+◌, List, ◌++◌, take, drop, length, false, Result, Ok, ap, sym, subst, ◌∙◌, arith, append_assoc}
use Rattle.std.specs.Prelude.{IfOk}
use Rattle.std.proofs.lemmas.List.{length-drop, drop-drop, take-append-drop}
use Rattle.std.proofs.Math.Seq.{take-add}
use Rattle.mx_folder.specs.declared.errors.FolderError.{FolderError}
use Rattle.mx_folder.specs.Parts.{PartValue, appended}

-- a write that took some of what is left
pub bytes_on : {n : ℕ} (result : Result ℕ FolderError) (first bytes : List ℕ) (w : ℕ) (rest : List ℕ) (between new : PartValue)
    → between.bytes ≡ first ++ take w bytes → new ≡ appended result rest between → result ≡ Ok n → rest ≡ drop w bytes
    → new.bytes ≡ first ++ take (w + n) bytes
bytes_on {n} result first bytes w rest between new before told is at =
    ap (λ p. p.bytes) (told ∙ ap (λ r. appended r rest between) is) ∙ ap (λ (b : List ℕ). b ++ take n rest) before ∙ append_assoc first (take w bytes) (take n rest)
    ∙ ap (λ (b : List ℕ). first ++ b) (ap (λ r. take w bytes ++ take n r) at ∙ sym (take-add w n bytes))

pub within_on : {n : ℕ} (result : Result ℕ FolderError) (bytes : List ℕ) (w : ℕ) (rest : List ℕ) → IfOk result (λ m. m ≤ length rest) → result ≡ Ok n → rest ≡ drop w bytes
    → w ≤ length bytes → w + n ≤ length bytes
within_on {n} result bytes w rest within is at small =
    let P : Result ℕ FolderError → Type 0 = λ r. IfOk r (λ m. m ≤ length rest) in
    let few : n ≤ length rest = subst P is within in
    omega (arith, few, ap length at, length-drop w bytes)

-- it has its name, isn't flushed, and no call was refused
pub name_on : {n : ℕ} (result : Result ℕ FolderError) (rest : List ℕ) (between new : PartValue) → new ≡ appended result rest between → result ≡ Ok n → new.name ≡ between.name
name_on {n} result rest between new told is = ap (λ p. p.name) (told ∙ ap (λ r. appended r rest between) is)

pub unflushed_on : {n : ℕ} (result : Result ℕ FolderError) (rest : List ℕ) (between new : PartValue) → new ≡ appended result rest between → result ≡ Ok n → new.flushed ≡ false
unflushed_on {n} result rest between new told is = ap (λ p. p.flushed) (told ∙ ap (λ r. appended r rest between) is)

pub refused_on : {n : ℕ} (result : Result ℕ FolderError) (rest : List ℕ) (between new : PartValue) → new ≡ appended result rest between → result ≡ Ok n → new.refused ≡ between.refused
refused_on {n} result rest between new told is = ap (λ p. p.refused) (told ∙ ap (λ r. appended r rest between) is)

-- of what was gathered a prefix was written, and the rest is still gathered
pub got_on : (first items : List ℕ) (start n : ℕ) (rest written : List ℕ) → written ≡ first ++ take n rest → rest ≡ drop start items
    → written ++ drop (start + n) items ≡ first ++ drop start items
got_on first items start n rest written is at =
    ap (λ (b : List ℕ). b ++ drop (start + n) items) is ∙ append_assoc first (take n rest) (drop (start + n) items)
    ∙ ap (λ (b : List ℕ). first ++ b) (ap (λ r. take n r ++ drop (start + n) items) at ∙ ap (λ (b : List ℕ). take n (drop start items) ++ b) (sym (drop-drop n start items))
    ∙ take-append-drop n (drop start items))
