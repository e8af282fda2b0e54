-- A load of an arrival, and one seat that becomes two.
use Rattle.std.specs.Prelude.{◌≡◌, ℕ, ◌<◌, ◌^◌, true, false, [], ◌∷◌, ◌++◌}
use Rattle.atomic_table.specs.Table.{Step}
use Rattle.machine_law.specs.declared.operations.Operation.TheVariants.{Idle}
use Rattle.word_steps.specs.declared.view.View.{View}
use Rattle.word_steps.specs.Turns.{Sat}

abbrev pub LooksUp : Step (Unit {0}) → Sat → ℕ → Sat → Type 0
LooksUp st m r m' = (m'.0 ≡ record m.0 { loaded = m.0.loaded ++ (st.word, r) ∷ [] }) × (m'.1 ≡ m.1)
    × (st.word < 2 → r < 2 ^ 63)

-- ---- two seats
abbrev pub half : ℕ → View → View
half k v = record v { number = k; workers = 2; made = [] }

abbrev pub left_half : View → View
left_half = half 0

abbrev pub right_half : View → View
right_half = half 1

-- v serves all blocks, and has no operation; it made no steps
pub record IsSole (v : View) : Type 0 where
  pub none : v.made ≡ []
  pub live : v.live ≡ true
  pub number : v.number ≡ 0
  pub workers : v.workers ≡ 1
  pub free : v.operation ≡ Idle

-- v is the seat k of two, and has no operation
pub record IsHalf (k : ℕ) (v : View) : Type 0 where
  pub live : v.live ≡ true
  pub number : v.number ≡ k
  pub workers : v.workers ≡ 2
  pub free : v.operation ≡ Idle

-- a joined seat makes no step
abbrev pub joined_view : View → View → View
joined_view v w = record v { number = 0; workers = 1; stopped = true; made = v.made ++ w.made }

abbrev pub spent_view : View
spent_view = record {
  net = record { pairs = []; worths = [] };
  live = false;
  number = 0;
  workers = 0;
  labels =
      [];
  block = 0;
  operation = Idle;
  stopped = true;
  made = [];
  loaded = [];
}
