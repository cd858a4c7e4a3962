-- The URLs that are still to be read.
use Rattle.std.proofs.Common.{◌≡◌, ◌∙◌, refl, ap, sym, ℕ, ◌+◌, ◌<◌, ◌≤◌, suc, zero, List, [], ◌∷◌, ◌++◌, map, length, drop, get_or, arith}
use Rattle.std.specs.Prelude.{Option, Some, None, option_map, option_to_list}
use Rattle.std.proofs.lemmas.List.{drop-map, drop_more}
use Rattle.mx_save_rules.specs.Entries.{Told, told}
use Rattle.mx_save_rules.specs.Left.{GivesNext, KeepsEntries}
use Rattle.mx_save_rules.specs.declared.entry.Entry.{Entry}
use Rattle.mx_save_urls.specs.Feeds.{Gives, IsUsedUp, Keeps}
use Rattle.mx_save_urls.specs.Texts.{bytes_of}

some_same : {X : Type 0} (x y : X) → Some x ≡ Some y → x ≡ y
some_same x y is = cc

-- where the same ones are left behind others
pub keeps_behind : (front : List (List ℕ)) (old new : Option (List (List ℕ))) → Keeps old new → Keeps (option_map (λ more. front ++ more) old) (option_map (λ more. front ++ more) new)
keeps_behind front None new keeps all is = absurd (cc)
keeps_behind front (Some more) new keeps all is = ap (option_map (λ m. front ++ m)) (keeps more refl) ∙ is

pub list_keeps : (old new : Option (List Told)) → KeepsEntries old new → Keeps (option_map (map bytes_of) old) (option_map (map bytes_of) new)
list_keeps None new keeps all is = absurd (cc)
list_keeps (Some all_told) None keeps all is = absurd keeps
list_keeps (Some all_told) (Some rest) keeps all is = ap (λ l. Some (map bytes_of l)) keeps ∙ is

-- the next one of the list is at hand
pub one_at_hand : (front : List (List ℕ)) (old new : Option (List Told)) (e : Entry) (bytes : List ℕ) → GivesNext old (Some e) new → bytes ≡ bytes_of (told e)
    → Keeps (option_map (λ more. front ++ more) (option_map (map bytes_of) old)) (option_map (λ more. front ++ bytes ∷ more) (option_map (map bytes_of) new))
one_at_hand front None new e bytes gives same all is = absurd (cc)
one_at_hand front (Some all_told) None e bytes gives same all is = absurd gives
one_at_hand front (Some all_told) (Some rest) e bytes gives same all is =
    ap (λ b. Some (front ++ b ∷ map bytes_of rest)) same ∙ ap (λ l. Some (front ++ map bytes_of l)) (sym gives) ∙ is

-- the list is at its end
pub list_ends : (old new : Option (List Told)) → GivesNext old None new → Keeps (option_map (map bytes_of) old) (option_map (map bytes_of) new)
list_ends None new gives all is = absurd (cc)
list_ends (Some all_told) None gives all is = absurd gives
list_ends (Some all_told) (Some rest) gives all is = ap (λ l. Some (map bytes_of l)) (gives.1 ∙ sym gives.0) ∙ is

pub used_up : (front : List (List ℕ)) (old new : Option (List Told)) → front ≡ [] → GivesNext old None new
    → IsUsedUp (option_map (λ more. front ++ more) (option_map (map bytes_of) old))
used_up front None new none gives all is = absurd (cc)
used_up front (Some all_told) None none gives all is = absurd gives
used_up front (Some all_told) (Some rest) none gives all is =
    sym (some_same (front ++ map bytes_of all_told) all is) ∙ ap (λ f. f ++ map bytes_of all_told) none ∙ ap (map bytes_of) gives.0

-- the next URL of the command line
pub gives_next : {X : Type 0} (texts hand : List (List ℕ)) (n : ℕ) (more : Option (List (List ℕ))) (bytes : X → List ℕ) (x : X) → drop n texts ≡ bytes x ∷ drop (n + 1) texts
    → Gives (option_map (λ m. drop n texts ++ (hand ++ m)) more) (Some x) bytes (option_map (λ m. drop (n + 1) texts ++ (hand ++ m)) more)
gives_next texts hand n None bytes x first all is = absurd (cc)
gives_next texts hand n (Some m) bytes x first all is =
    (drop (n + 1) texts ++ (hand ++ m), refl, sym (some_same (drop n texts ++ (hand ++ m)) all is) ∙ ap (λ l. l ++ (hand ++ m)) first)

-- what is at hand, if anything is
pub gives_hand : {X : Type 0} (front : List (List ℕ)) (more : Option (List (List ℕ))) (bytes : X → List ℕ) (hand : Option X) → front ≡ []
    → Gives (option_map (λ m. front ++ (option_to_list (option_map bytes hand) ++ m)) more) hand bytes (option_map (λ m. front ++ m) more)
gives_hand front None bytes hand none all is = absurd (cc)
gives_hand front (Some m) bytes hand none all is =
    let its = option_to_list (option_map bytes hand) in
    (front ++ m, refl, sym (some_same (front ++ (its ++ m)) all is) ∙ ap (λ f. f ++ (its ++ m)) none ∙ ap (λ f. its ++ (f ++ m)) (sym none))

pub drop_at : {X Y : Type 0} (f : X → Y) (xs : List X) (n : ℕ) (d : X) → n < length xs → drop n (map f xs) ≡ f (get_or xs n d) ∷ drop (n + 1) (map f xs)
drop_at f xs n d lt = drop-map f n xs ∙ ap (map f) (drop_more xs n d lt) ∙ ap (λ l. f (get_or xs n d) ∷ l) (sym (drop-map f (n + 1) xs))

-- nothing is behind the last
pub drop_none : {X Y : Type 0} (f : X → Y) (xs : List X) (n : ℕ) → length xs ≤ n → drop n (map f xs) ≡ []
drop_none f [] zero le = refl
drop_none f [] (suc n) le = refl
drop_none f (x ∷ xs) zero le = absurd (omega (arith, le))
drop_none f (x ∷ xs) (suc n) le = drop_none f xs n (omega (arith, le))
