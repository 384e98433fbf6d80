-- What is known of the objects that have a name, of what is found by it.
-- Serves `objects` and `classes`.
use Rattle.std.proofs.Common.{◌<◌, ℕ, List, All, Contains, get_or}
use Rattle.std.proofs.lemmas.List.Elements.{All-contains}
use Rattle.sqz_image.specs.Objects.{Memory, object_count}
use Rattle.sqz_names.specs.declared.words.found.Found.{Found}
use Rattle.sqz_names.specs.declared.words.found.Found.TheVariants.{One, Nothing}
use Rattle.sqz_names.specs.declared.words.found.Missing.TheVariants.{NoObjectAt, NoClassAt, NoSpecialObject, Ambiguous, NoObjectNamed, NoClassNamed}
use Rattle.sqz_names.specs.Found.{IsAbout, IsFoundIn}

module _ (P : ℕ → Type 0) (objects : List ℕ) (all : All P objects) where
  -- a fact about each object of a list, about what is found in it
  IsAbout-all : (found : Found ℕ) → IsAbout (Contains objects) found → IsAbout P found
  IsAbout-all (One object) is = All-contains P objects object all is
  IsAbout-all (Nothing (Ambiguous named)) are =
      λ i d inside. All-contains P objects (get_or named.items i d) all (are i d inside)
  IsAbout-all (Nothing (NoObjectAt address)) is = is
  IsAbout-all (Nothing (NoClassAt address)) is = is
  IsAbout-all (Nothing (NoSpecialObject field)) is = is
  IsAbout-all (Nothing NoObjectNamed) is = is
  IsAbout-all (Nothing NoClassNamed) is = is

-- it is an object of the image
inside_by : (memory : Memory) (found : Found ℕ) → IsAbout (λ object. object < object_count memory) found → IsFoundIn memory found
inside_by memory (One object) is = is
inside_by memory (Nothing (Ambiguous objects)) are = are
inside_by memory (Nothing (NoObjectAt address)) is = absurd is
inside_by memory (Nothing (NoClassAt address)) is = absurd is
inside_by memory (Nothing (NoSpecialObject field)) is = absurd is
inside_by memory (Nothing NoObjectNamed) is = absurd is
inside_by memory (Nothing NoClassNamed) is = absurd is

-- what is found among objects of the image
pub IsFoundIn-about : (memory : Memory) (objects : List ℕ) → All (λ object. object < object_count memory) objects
    → (found : Found ℕ) → IsAbout (Contains objects) found → IsFoundIn memory found
IsFoundIn-about memory objects all found is =
    inside_by memory found (IsAbout-all (λ object. object < object_count memory) objects all found is)
