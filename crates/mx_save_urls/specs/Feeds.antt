-- The URLs that are still to be read.
use Rattle.std.specs.Prelude.{◌≡◌, ◌⊎◌, ℕ, ◌<◌, Bool, Box, true, List, [], ◌++◌, drop, length, map, Option, Some, None, IsSome, option_map, option_to_list}
use Rattle.mx_save_rules.specs.Left.{entries_left}
use Rattle.mx_save_rules.specs.declared.list.UrlList.{UrlList}
use Rattle.mx_save_urls.specs.Texts.{bytes_of}
use Rattle.mx_save_urls.specs.declared.feed.Feed.{Feed}

-- what a list has left, where that is known
abbrev pub list_left : {R A : Type 0} → (R → Option (List ℕ)) → Option (Box (UrlList R) A) → Option (List (List ℕ))
list_left remaining None = Some []
list_left remaining (Some list) = option_map (map bytes_of) (entries_left remaining list.value)

-- the URL of the list that is at hand, if one is
abbrev pub at_hand : {R : Type 0} → Feed R → List (List ℕ)
at_hand feed = option_to_list (option_map (λ v. v.items) feed.ahead)

-- the next URL is at hand: one of the command line is left, or that of the list is
abbrev pub HasUrl : {R : Type 0} → Feed R → Type 0
HasUrl feed = (feed.next < length feed.urls.now) ⊎ IsSome feed.ahead

-- what is left of all, where that is known
abbrev pub left : {R : Type 0} → (R → Option (List ℕ)) → Feed R → Option (List (List ℕ))
left remaining feed = option_map (λ more. drop feed.next (map (λ u. u.now) feed.urls.now) ++ (at_hand feed ++ more)) (list_left remaining feed.list)

-- the URLs that are left begin with that one; or the same ones are left
abbrev pub Gives : {X : Type 0} → Option (List (List ℕ)) → Option X → (X → List ℕ) → Option (List (List ℕ)) → Type 0
Gives old said bytes new = (all : List (List ℕ)) → old ≡ Some all → (rest : List (List ℕ)) × (new ≡ Some rest) × (all ≡ option_to_list (option_map bytes said) ++ rest)

-- none is left
abbrev pub IsUsedUp : Option (List (List ℕ)) → Type 0
IsUsedUp now = (all : List (List ℕ)) → now ≡ Some all → all ≡ []

-- the same ones are left
abbrev pub Keeps : Option (List (List ℕ)) → Option (List (List ℕ)) → Type 0
Keeps old new = (all : List (List ℕ)) → old ≡ Some all → new ≡ Some all

-- Of the URLs that were there at first these were read, and those are left; none is, where all were read.
abbrev pub IsFed : Option (List (List ℕ)) → List (List ℕ) → Option (List (List ℕ)) → Bool → Type 0
IsFed first read left all_read = (all : List (List ℕ)) → first ≡ Some all
    → (rest : List (List ℕ)) × (left ≡ Some rest) × (all ≡ read ++ rest) × (all_read ≡ true → rest ≡ [])
