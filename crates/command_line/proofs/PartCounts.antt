-- How many parts the generated page of a command has.
use Rattle.std.proofs.Common.{◌≡◌, ℕ, Bool, true, false, ◌&&◌, nat_le, List, [], ◌∷◌, Option, Some, None, IfSome, refl, subst, sym}
use Rattle.std.specs.Prelude.{if◌then◌else◌, bytes_eq, codes}
use Rattle.std.proofs.lemmas.Bool.{and_parts, leb-true}
use Rattle.std.specs.Option.{option_map}
use Rattle.command_line.specs.declared.command.Command.{Command as Asked}
use Rattle.stress.specs.Stress.{most_parts}
use Rattle.command_line.specs.Command.{Command, HasParts, check, command_of, counted, drop_row, fetch, few_parts, instrument, is_session_name, page_of, park_of, parked_of, replay, row_of, save, session_of, stress_of, version_of, versioned, view}

either : (b : Bool) (left right : Option Command) → IfSome left HasParts → IfSome right HasParts → IfSome (if b then left else right) HasParts
either true left right l r = l
either false left right l r = r

few_counted : (found : Option ℕ) → IfSome (counted (few_parts found)) HasParts
few_counted None = tt
few_counted (Some n) = by (nat_le 1 n && nat_le n most_parts) refl
  where
    by : (b : Bool) → (nat_le 1 n && nat_le n most_parts) ≡ b → IfSome (counted (if b then Some n else None)) HasParts
    by true is = let both = and_parts (nat_le 1 n) (nat_le n most_parts) is in (leb-true 1 n both.0, leb-true n most_parts both.1)
    by false is = tt

of_parts : (words : List (List ℕ)) → IfSome (stress_of words) HasParts
of_parts (parts ∷ []) = few_counted (version_of parts)
of_parts [] = tt
of_parts (parts ∷ more ∷ words) = tt

of_page : (command : List ℕ → Command) → ((page : List ℕ) → HasParts (command page)) → (words : List (List ℕ)) → IfSome (page_of command words) HasParts
of_page command h (page ∷ []) = h page
of_page command h [] = tt
of_page command h (page ∷ more ∷ words) = tt

of_session : (command : List ℕ → List ℕ → Command) → ((page events : List ℕ) → HasParts (command page events)) → (words : List (List ℕ))
    → IfSome (session_of command words) HasParts
of_session command h (page ∷ events ∷ []) = h page events
of_session command h [] = tt
of_session command h (page ∷ []) = tt
of_session command h (page ∷ events ∷ more ∷ words) = tt

of_park : (words : List (List ℕ)) → IfSome (park_of words) HasParts
of_park (page ∷ events ∷ name ∷ []) = either (is_session_name name) _ None tt tt
of_park [] = tt
of_park (page ∷ []) = tt
of_park (page ∷ events ∷ []) = tt
of_park (page ∷ events ∷ name ∷ more ∷ words) = tt

of_version : (command : ℕ → Command) → ((version : ℕ) → HasParts (command version)) → (found : Option ℕ) → IfSome (versioned command found) HasParts
of_version command h None = tt
of_version command h (Some version) = h version

of_row : (command : List ℕ → ℕ → Command) → ((name : List ℕ) (version : ℕ) → HasParts (command name version)) → (words : List (List ℕ)) → IfSome (row_of command words) HasParts
of_row command h (name ∷ version ∷ []) = either (is_session_name name) _ None (of_version (command name) (h name) (version_of version)) tt
of_row command h [] = tt
of_row command h (name ∷ []) = tt
of_row command h (name ∷ version ∷ more ∷ words) = tt

of_parked : (words : List (List ℕ)) → IfSome (parked_of words) HasParts
of_parked [] = tt
of_parked (word ∷ words) = tt

-- the words of a command line ask for a generated page of a number of parts that there is
pub few_commanded : (words : List (List ℕ)) → IfSome (command_of words) HasParts
few_commanded [] = tt
few_commanded (verb ∷ words) =
    either (bytes_eq verb (codes "check")) _ _ (of_page check (λ page. tt) words) (
    either (bytes_eq verb (codes "instrument")) _ _ (of_page instrument (λ page. tt) words) (
    either (bytes_eq verb (codes "replay")) _ _ (of_session replay (λ page events. tt) words) (
    either (bytes_eq verb (codes "save")) _ _ (of_session save (λ page events. tt) words) (
    either (bytes_eq verb (codes "park")) _ _ (of_park words) (
    either (bytes_eq verb (codes "fetch")) _ _ (of_row fetch (λ name version. tt) words) (
    either (bytes_eq verb (codes "parked")) _ _ (of_parked words) (
    either (bytes_eq verb (codes "drop")) _ _ (of_row drop_row (λ name version. tt) words) (
    either (bytes_eq verb (codes "stress")) _ _ (of_parts words) tt))))))))

-- so does the command that they were read as
pub parts_asked : (words : List (List ℕ)) (command : Asked) → option_map view (Some command) ≡ command_of words → HasParts (view command)
parts_asked words command is = subst (λ (found : Option Command). IfSome found HasParts) (sym is) (few_commanded words)
