-- What clap finds in the words of a command line.
use Rattle.std.specs.Prelude.{◌≡◌, ◌⊎◌, List, [], ◌∷◌, Option, Some, codes, option_map, option_and_then}
use Rattle.clap.specs.Words.{Row, Text, first_of}

-- the subcommand's name
abbrev pub subcommand_in : Option (Text × List Row) → Option Text
subcommand_in = option_map (λ p. p.0)

-- the value of an argument of the subcommand
abbrev pub value_in : Text → Option (Text × List Row) → Option Text
value_in id = option_and_then (λ p. first_of id p.1)

-- the words are `create` and three more, and these were found
pub record FindsCreate (words : List Text) (found : Option (Text × List Row)) : Type 0 where
  pub file : Text
  pub extents : Text
  pub pages : Text
  pub are : words ≡ codes "create" ∷ file ∷ extents ∷ pages ∷ []
  pub name : subcommand_in found ≡ Some (codes "create")
  pub file_is : value_in (codes "FILE") found ≡ Some file
  pub extents_is : value_in (codes "EXTENTS") found ≡ Some extents
  pub pages_is : value_in (codes "PAGES") found ≡ Some pages

-- the words are the name of a command and one more, and this was found
pub record FindsFile (name : Text) (words : List Text) (found : Option (Text × List Row)) : Type 0 where
  pub file : Text
  pub are : words ≡ name ∷ file ∷ []
  pub name_is : subcommand_in found ≡ Some name
  pub file_is : value_in (codes "FILE") found ≡ Some file

-- clap found what the words say
abbrev pub Finds : List Text → Option (Text × List Row) → Type 0
Finds words found = FindsCreate words found ⊎ FindsFile (codes "run") words found ⊎ FindsFile (codes "check") words found

-- the words are `create` and three more
pub record IsCreateSplit (words : List Text) : Type 0 where
  pub file : Text
  pub extents : Text
  pub pages : Text
  pub are : words ≡ codes "create" ∷ file ∷ extents ∷ pages ∷ []

-- the words are the name of a command and one more
pub record IsFileSplit (name : Text) (words : List Text) : Type 0 where
  pub file : Text
  pub are : words ≡ name ∷ file ∷ []

-- the words have the form of a command line
abbrev pub IsSplit : List Text → Type 0
IsSplit words = IsCreateSplit words ⊎ IsFileSplit (codes "run") words ⊎ IsFileSplit (codes "check") words
