-- Lists that are joined.
use Rattle.std.specs.Prelude.{◌≡◌, List, [], ◌∷◌, ◌++◌}

-- the lists that belong to some items, one after the other
abbrev pub AreJoined : {X Y : Type 0} → (X → List Y → Type 0) → List X → List Y → Type 0
AreJoined {X} {Y} IsOf [] joined = joined ≡ []
AreJoined {X} {Y} IsOf (x ∷ xs) joined =
    (first : List Y) × IsOf x first × ((rest : List Y) × (joined ≡ first ++ rest) × AreJoined IsOf xs rest)
