-- What one value of a TOML document reads as.
use Rattle.std.specs.Bool.{nat_le, nat_lt}
use Rattle.std.specs.Prelude.{ℕ, ◌<◌, ◌≤◌, ◌&&◌, ◌||◌, Bool, true, cond, ℤ, pos, negsuc, List, [], ◌∷◌, length}
use Rattle.std.specs.Prelude.{slice_index, Option, Some, None, codes, bytes_eq}
use Rattle.std.specs.List.{All}
use Rattle.toml.specs.Data.{Data, Items, no_items, item, Members, get_member, as_integer, as_array, as_table, as_str}
use Rattle.fixed_worth.specs.declared.limits.TheConstants.{MOST_FACTOR, MOST_FACTORS}
use Rattle.settings_file.specs.declared.keys.Key.{Key}
use Rattle.settings_file.specs.declared.keys.Key.TheVariants.{Revenue, Processing}
use Rattle.settings_file.specs.declared.up_sign.UpSign.{UpSign}
use Rattle.settings_file.specs.declared.up_sign.UpSign.TheVariants.{Plus, Minus}
use Rattle.settings_file.specs.declared.ways.WayColumns.{WayColumns}
use Rattle.settings_file.specs.declared.ways.TheConstants.{MOST_WAYS}
use Rattle.toml_values.specs.Prelude.{all_named, whole_value_within}
use Rattle.settings_file.specs.Keys.{settings_key_name}

-- A whole number from -2^31 to 2^31 - 1, and nothing else. (negsuc n is -1 - n.)
abbrev pub whole_in_i32 : Option ℤ → Option ℤ
whole_in_i32 (Some (pos n)) = cond (nat_le n 2147483647) (Some (pos n)) None
whole_in_i32 (Some (negsuc n)) = cond (nat_le n 2147483647) (Some (negsuc n)) None
whole_in_i32 None = None

-- What a value reads as that has to be a number of an offset, from -2^31 to 2^31 - 1.
abbrev pub offset_number : Data → Option ℤ
offset_number d = whole_in_i32 (as_integer d)

-- One value set before others; nothing where it or one of them didn't read.
abbrev pub put_first : {V : Type 0} → Option V → Option (List V) → Option (List V)
put_first (Some v) (Some vs) = Some (v ∷ vs)
put_first _ _ = None

-- What each item reads as, in order, and nothing where one doesn't read.
unfoldable pub all_read : {V : Type 0} → (Data → Option V) → Items → Option (List V)
all_read reads no_items = Some []
all_read reads (item d ds) = put_first (reads d) (all_read reads ds)

-- The number is below the first of these, where there is one.
abbrev pub is_below_first : ℕ → List ℕ → Bool
is_below_first n [] = true
is_below_first n (m ∷ ms) = nat_lt n m

-- Each number is above the one before it.
unfoldable pub are_ascending : List ℕ → Bool
are_ascending [] = true
are_ascending (n ∷ ns) = is_below_first n ns && are_ascending ns

-- Numbers that were read, where they are 1 to 64 and each is above the one before it.
abbrev pub if_factors : Option (List ℕ) → Option (List ℕ)
if_factors (Some ns) = cond ((nat_le 1 (length ns) && nat_le (length ns) MOST_FACTORS) && are_ascending ns)
    (Some ns) None
if_factors None = None

-- The factors that the items of an array are: whole numbers from 0 to 10,000, as many and in such order as factors must
-- be.
abbrev pub factors_of_items : Option Items → Option (List ℕ)
factors_of_items (Some ds) = if_factors (all_read (whole_value_within MOST_FACTOR) ds)
factors_of_items None = None

-- What a value reads as that has to be factors: an array of 1 to 64 whole numbers from 0 to 10,000, each above the one
-- before it.
abbrev pub factors_of : Data → Option (List ℕ)
factors_of d = factors_of_items (as_array d)

-- The offset of three numbers, and nothing where one of them didn't read.
abbrev pub three : Option ℤ → Option ℤ → Option ℤ → Option (ℤ × ℤ × ℤ)
three (Some x) (Some y) (Some z) = Some (x, y, z)
three _ _ _ = None

-- The offset that the items of an array are, where they are exactly three whole numbers of an offset.
abbrev pub offset_of_items : Option Items → Option (ℤ × ℤ × ℤ)
offset_of_items (Some (item x (item y (item z no_items)))) = three (offset_number x) (offset_number y) (offset_number z)
offset_of_items _ = None

-- What a value reads as that has to be an offset: an array of three whole numbers from -2^31 to 2^31 - 1.
abbrev pub offset_of : Data → Option (ℤ × ℤ × ℤ)
offset_of d = offset_of_items (as_array d)

-- The offsets that the items of an array are, in order.
abbrev pub offsets_of_items : Option Items → Option (List (ℤ × ℤ × ℤ))
offsets_of_items (Some ds) = all_read offset_of ds
offsets_of_items None = None

-- What a value reads as that has to be offsets: an array of any number of them.
abbrev pub offsets_of : Data → Option (List (ℤ × ℤ × ℤ))
offsets_of d = offsets_of_items (as_array d)

-- The offsets of each region that the items of an array are, in order: one item for each region.
abbrev pub slopes_of_items : Option Items → Option (List (List (ℤ × ℤ × ℤ)))
slopes_of_items (Some ds) = all_read offsets_of ds
slopes_of_items None = None

-- What a value reads as that has to be slopes: an array with the offsets of each region, as `offsets` lists them.
abbrev pub slopes_of : Data → Option (List (List (ℤ × ℤ × ℤ)))
slopes_of d = slopes_of_items (as_array d)

-- Which way is up by a value that may be a text: "plus", where a greater z is higher, or "minus".
abbrev pub sign_of_text : Option (List ℕ) → Option UpSign
sign_of_text (Some word) = cond (bytes_eq word (codes "plus")) (Some Plus)
    (cond (bytes_eq word (codes "minus")) (Some Minus) None)
sign_of_text None = None

-- What a value reads as that has to say which way is up: the text "plus" or "minus".
abbrev pub sign_of : Data → Option UpSign
sign_of d = sign_of_text (as_str d)

-- whether a name is one of the two that a way's table has
abbrev pub is_way_key : List ℕ → Bool
is_way_key name = bytes_eq name (settings_key_name Revenue) || bytes_eq name (settings_key_name Processing)

-- What a value reads as, where there is one.
abbrev pub read_if : {V : Type 0} → (Data → Option V) → Option Data → Option V
read_if reads (Some d) = reads d
read_if reads None = None

-- The number of a column at a key of a table; nothing where the key isn't there, or its value is no such number.
abbrev pub column_at : Key → Members → Option ℕ
column_at key ms = read_if (whole_value_within 65535) (get_member (settings_key_name key) ms)

-- The columns of a way, and nothing where one of them didn't read.
abbrev pub two_columns : Option ℕ → Option ℕ → Option WayColumns
two_columns (Some r) (Some p) = Some (record { revenue = r; processing = p })
two_columns _ _ = None

-- The way that the members of a table are: its column of revenues and that of processing, and nothing else.
abbrev pub way_of_members : Option Members → Option WayColumns
way_of_members (Some ms) = cond (all_named is_way_key ms)
    (two_columns (column_at Revenue ms) (column_at Processing ms)) None
way_of_members None = None

-- What a value reads as that has to be a way: a table `{ revenue = COLUMN, processing = COLUMN }`, with columns from 0
-- to 65,535.
abbrev pub way_of : Data → Option WayColumns
way_of d = way_of_members (as_table d)

-- Ways that were read, where they are 1 to 8.
abbrev pub if_ways : Option (List WayColumns) → Option (List WayColumns)
if_ways (Some ws) = cond (nat_le 1 (length ws) && nat_le (length ws) MOST_WAYS) (Some ws) None
if_ways None = None

-- The ways that the items of an array are, in order.
abbrev pub ways_of_items : Option Items → Option (List WayColumns)
ways_of_items (Some ds) = if_ways (all_read way_of ds)
ways_of_items None = None

-- What a value reads as that has to be ways: an array of 1 to 8 of them.
abbrev pub ways_of : Data → Option (List WayColumns)
ways_of d = ways_of_items (as_array d)

-- what is known of the columns of a way that was read
abbrev pub IsWay : WayColumns → Type 0
IsWay w = (w.revenue ≤ 65535) × (w.processing ≤ 65535)

-- What is known of ways that were read.
pub record AreWays (ws : List WayColumns) : Type 0 where
  pub some : 1 ≤ length ws
  pub few : length ws ≤ MOST_WAYS
  pub columns : All IsWay ws

-- What is known of factors that were read.
pub record AreFactors (ns : List ℕ) : Type 0 where
  pub some : 1 ≤ length ns
  pub few : length ns ≤ MOST_FACTORS
  pub ascending : (i j : ℕ) → i < j → j < length ns → slice_index ns i < slice_index ns j
  pub bounded : All (λ n. n ≤ MOST_FACTOR) ns
