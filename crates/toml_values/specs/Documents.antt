-- A text as a TOML document, and what its table is asked for.
use Rattle.std.specs.Prelude.{◌≡◌, ℕ, ◌&&◌, Bool, true, List, ◌++◌, codes, Some, None, Result, Ok, Err, IsUtf8}
use Rattle.toml.specs.Parse.{parse_document}
use Rattle.toml.specs.Data.{Members, no_members, member}
use Rattle.toml_values.specs.declared.document.DocumentFault.{DocumentFault}
use Rattle.toml_values.specs.declared.document.DocumentFault.TheVariants.{NotToml, NoMemory}

-- The text is a TOML document with these members.
pub record IsDocument (text : List ℕ) (ms : Members) : Type 0 where
  pub utf8 : IsUtf8 text
  pub parsed : parse_document text ≡ Some ms

-- The text is a document with members of which this holds.
abbrev pub Says : List ℕ → (Members → Type 0) → Type 0
Says text P = (ms : Members) × IsDocument text ms × P ms

-- Why a text gave no document. Memory is asked for only where the text is UTF-8.
abbrev pub DocumentFails : List ℕ → DocumentFault → Type 0
DocumentFails text NotToml = IsUtf8 text → parse_document text ≡ None
DocumentFails text NoMemory = IsUtf8 text

-- Whether every name of a table passes a test.
abbrev pub all_named : (List ℕ → Bool) → Members → Bool
all_named test no_members = true
all_named test (member name d ms) = test name && all_named test ms

-- The first fault, or what the next step says.
abbrev pub then_with : {A B E : Type 0} → Result A E → (A → Result B E) → Result B E
then_with (Ok x) next = next x
then_with (Err e) next = Err e

-- A word with the name of a key in parentheses.
abbrev pub with_key : List ℕ → List ℕ → List ℕ
with_key word name = word ++ (codes "(" ++ (name ++ codes ")"))
