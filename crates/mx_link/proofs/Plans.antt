-- What a plan holds, from the script that it was made of.
use Rattle.std.proofs.Common.{◌≡◌, ℕ, ◌<◌, ◌+◌, ◌++◌, take, get_or, add-one, sym, ap, ◌∙◌, ◌==◌, Bool, true, false, List, [], ◌∷◌, length, map, refl, arith}
use Rattle.std.specs.Prelude.{Option, Some, None, option_map}
use Rattle.std.specs.Option.{option_to_list}
use Rattle.std.specs.List.{filter_map, cons_option}
use Rattle.std.proofs.Common.{cond}
use Rattle.std.proofs.Math.Seq.{take-suc}
use Rattle.std.proofs.lemmas.List.{map-append}
use Rattle.std.proofs.lemmas.List.Elements.{filter_map-append}
use Rattle.std.proofs.lemmas.Bool.Decides.{nat_tests}
use Rattle.mx_link.specs.declared.answers.Answer.{Answer}
use Rattle.mx_link.specs.declared.answers.Answer.TheVariants as answers
use Rattle.mx_link.specs.declared.scripted.ScriptRead.{ScriptRead}
use Rattle.mx_link.specs.declared.scripted.ScriptRead.TheVariants as read
use Rattle.mx_link.specs.declared.scripted.Planned.{Planned}
use Rattle.mx_link.specs.declared.scripted.Planned.TheVariants as entry
use Rattle.mx_link.specs.Script.{planned}
use Rattle.mx_link.specs.Plan.{answer_of, left_of, GivesSome, AllGiveSome}

-- entries of which none was begun
pub left_of-none : (entries : List Planned) → left_of entries 0 ≡ map answer_of entries
left_of-none [] = refl
left_of-none (entry.Bytes bytes ∷ rest) = refl
left_of-none (entry.WouldBlock ∷ rest) = refl
left_of-none (entry.End ∷ rest) = refl
left_of-none (entry.Fault ∷ rest) = refl

abbrev FromSome : Option Answer → List Answer → Type 0
FromSome None rest = AllGiveSome rest
FromSome (Some answer) rest = GivesSome answer × AllGiveSome rest

gives_some : (bytes : List ℕ) (b : Bool) → (length bytes == 0) ≡ b → (rest : List Answer) → AllGiveSome rest → AllGiveSome (cons_option (cond b None (Some (answers.Gave bytes))) rest)
gives_some bytes true is rest all = all
gives_some bytes false is rest all = (positive (length bytes) is, all) where
  positive : (n : ℕ) → (n == 0) ≡ false → 0 < n
  positive n is = grind (arith, nat_tests)

pub AllGiveSome-planned : (reads : List ScriptRead) → AllGiveSome (filter_map planned reads)
AllGiveSome-planned [] = tt
AllGiveSome-planned (read.Bytes bytes ∷ rest) = gives_some bytes.now (length bytes.now == 0) refl (filter_map planned rest) (AllGiveSome-planned rest)
AllGiveSome-planned (read.WouldBlock ∷ rest) = (tt, AllGiveSome-planned rest)
AllGiveSome-planned (read.End ∷ rest) = (tt, AllGiveSome-planned rest)
AllGiveSome-planned (read.Fault ∷ rest) = (tt, AllGiveSome-planned rest)

-- one more entry of a script, whose answer is planned or which is skipped
pub planned-more : (reads : List ScriptRead) (i : ℕ) (d : ScriptRead) (entries : List Planned) (added : Option Planned) → i < length reads → map answer_of entries ≡ filter_map planned (take i reads) → option_map answer_of added ≡ planned (get_or reads i d) → map answer_of (entries ++ option_to_list added) ≡ filter_map planned (take (i + 1) reads)
planned-more reads i d entries added within so_far is =
    let read = get_or reads i d in
    let longer : filter_map planned (take (i + 1) reads) ≡ filter_map planned (take i reads) ++ filter_map planned (read ∷ []) =
    rw (add-one, take-suc reads i d) (filter_map-append planned (take i reads) (read ∷ [])) in
    let next : map answer_of (option_to_list added) ≡ filter_map planned (read ∷ []) =
    one added ∙ ap (λ answer. cons_option answer []) is in
    map-append answer_of entries (option_to_list added) ∙ (λ j. so_far j ++ next j) ∙ sym longer where
      one : (o : Option Planned) → map answer_of (option_to_list o) ≡ cons_option (option_map answer_of o) []
      one None = refl
      one (Some entry) = refl
