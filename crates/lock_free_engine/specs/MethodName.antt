-- The names of the method that runs without a lock.
use Rattle.std.specs.Prelude.{ℕ, ◌||◌, Bool, List, codes}
use Rattle.std.specs.Str.{bytes_eq}

-- today's name, or the one that it had first
abbrev pub is_lock_free : List ℕ → Bool
is_lock_free name = bytes_eq name (codes "lock-free") || bytes_eq name (codes "words")
