-- The kit's names that proofs cite most, passed on from one place. Declares nothing.
pub use Rattle.std.proofs.Common.{All, AllPairs, Bool, Bor, Contains, EachIndex, Err, Fits, FitsSigned, Global, IfErr}
pub use Rattle.std.proofs.Common.{IfOk, IfSome, IsErrAnd, IsTrue, List, MatchOption, MatchResult, None, Ok, Option}
pub use Rattle.std.proofs.Common.{Ordering, Result, SFits, Some, String, Vec, [], add-one, ap, append-nil, append_assoc}
pub use Rattle.std.proofs.Common.{ap₂, arith, below_more, codes, cond, decimal, drop, drop-cons, drop-drop, eqb, false}
pub use Rattle.std.proofs.Common.{filter, get_or, get_or-set_other, get_or-set_same, if◌then◌else◌, inl, inr, is_some}
pub use Rattle.std.proofs.Common.{length, length-append, length-drop, length-set, length-take, length-take-le, lit<}
pub use Rattle.std.proofs.Common.{ltb, map, min, nat_eq, nat_le, nat_lt, neg_ℤ, negsuc, not, of_z, pos, pow-add, refl}
pub use Rattle.std.proofs.Common.{replicate, rules, set, slice_index, slice_index_or, slice_range, string_bytes, subst}
pub use Rattle.std.proofs.Common.{suc, sym, take, to_z, true, true≢false, unsigned_abs, unwrap_or, vec_capacity}
pub use Rattle.std.proofs.Common.{vec_len, w32, w64, zero, ℕ, ℤ, ⊎_elim, ◌%◌, ◌&&◌, ◌*ℤ◌, ◌*◌, ◌++◌, ◌+ℤ◌, ◌+◌, ◌-ℤ◌}
pub use Rattle.std.proofs.Common.{◌-◌, ◌/◌, ◌<ℤ◌, ◌<◌, ◌==◌, ◌^◌, ◌||◌, ◌↔◌, ◌∙◌, ◌∷◌, ◌≡◌, ◌≢◌, ◌≤ℤ◌, ◌≤◌, ◌⊎◌}
pub use Rattle.std.proofs.KnownBytes.{Appends-kept, Appends-nil, Appends-trans, Consumes-nil, Consumes-trans}
pub use Rattle.std.proofs.Math.Bool.{or-false}
pub use Rattle.std.proofs.Math.Nat.{div-div-eq-div-mul, div-eq_of_lt-le, div-lt_iff_lt-mul, div-mul-le_self}
pub use Rattle.std.proofs.Math.Nat.{lt-div-mul-add, min-le_left, min-le_right, mul-div_cancel_left, mul-le-mul_left}
pub use Rattle.std.proofs.Math.Nat.{mul-mul-mul_comm, mul_comm, one-le-pow, pow-le-pow_right, pow-succ'}
pub use Rattle.std.proofs.Math.Path.{fun_ext}
pub use Rattle.std.proofs.Math.Seq.{drop-append-add, drop-append_seam, get_or-append_seam, take-add, take-append-add}
pub use Rattle.std.proofs.Math.Seq.{take-append_seam, take-length, take-suc}
pub use Rattle.std.proofs.Output.{has_written_of_eq, writes_in_calls_nil}
pub use Rattle.std.proofs.lemmas.Bool.{and_from, and_parts, cases_Bool, cases_eq, cases_lt, cases_order, cond_both}
pub use Rattle.std.proofs.lemmas.Bool.{eq-eqb, eqb-true, false_from_ne_true, iff_false, le-leb, le-ltb, lt-leb, lt-ltb}
pub use Rattle.std.proofs.lemmas.Bool.{ltb-true, ne_eqb, not-false, not-true, not_from_false, or_cases, or_from}
pub use Rattle.std.proofs.lemmas.Bool.{or_left, or_parts, or_right, true_from_ne_false}
pub use Rattle.std.proofs.lemmas.Bool.Decides.{Decides-int_eq, nat_tests}
pub use Rattle.std.proofs.lemmas.Cmp.{eq_by_cmp_equiv, int_cmp_total, int_ranked, nat_cmp_total, on_total, ranked}
pub use Rattle.std.proofs.lemmas.Cmp.{then_total}
pub use Rattle.std.proofs.lemmas.Fmt.{decimal_by_steps_wide, decimal_digit, decimal_nonempty, decimal_step_wide}
pub use Rattle.std.proofs.lemmas.Fmt.{length-decimal-le, length-decimal-le_wide}
pub use Rattle.std.proofs.lemmas.Fn.{filter_same}
pub use Rattle.std.proofs.lemmas.Grind.{common_steps, get_or-set_at, get_or_default_zero}
pub use Rattle.std.proofs.lemmas.Int.{by_lt_z, clamps, fits_signed_from_abs, ints, to_z-of_z, unsigned_abs-mul}
pub use Rattle.std.proofs.lemmas.List.{drop-take, drop_all, drop_more, ext_get_or, flat_map_more, get_or-append-add}
pub use Rattle.std.proofs.lemmas.List.{get_or-append_right, get_or-drop, get_or-map, get_or-replicate, get_or-take}
pub use Rattle.std.proofs.lemmas.List.{get_or_append_left, get_or_default, get_or_past, get_or_push, get_or_read}
pub use Rattle.std.proofs.lemmas.List.{length-map, length-replicate, map-append, map-set, map_push, places, same_lists}
pub use Rattle.std.proofs.lemmas.List.{take-append-drop, take-append-le, take-replicate, take_all, take_more}
pub use Rattle.std.proofs.lemmas.List.{with_items_is}
pub use Rattle.std.proofs.lemmas.List.Concat.{flat_map-append}
pub use Rattle.std.proofs.lemmas.List.Elements.{All-append, All-cons, All-contains, All-contains_itself, All-filter}
pub use Rattle.std.proofs.lemmas.List.Elements.{All-from_recursion, All-head, All-map, All-nil, All-push, All-tail}
pub use Rattle.std.proofs.lemmas.List.Elements.{All-weaker, Contains-append_cases, Contains-append_left}
pub use Rattle.std.proofs.lemmas.List.Elements.{Contains-append_right, Contains-get_or, Contains-push}
pub use Rattle.std.proofs.lemmas.List.Elements.{Contains-push_cases, filter-append, filter_passes, recursion_from_All}
pub use Rattle.std.proofs.lemmas.List.Filters.{dedup_is}
pub use Rattle.std.proofs.lemmas.List.Folds.{Any-from_list_any, flat_map-map, length-prefix_len, list_all-append}
pub use Rattle.std.proofs.lemmas.List.Folds.{list_all_more, list_any-append, list_any-from_Any, list_any_at}
pub use Rattle.std.proofs.lemmas.List.Folds.{list_any_none}
pub use Rattle.std.proofs.lemmas.List.FromFn.{get_or-map-range_with_len, length-map-range_with_len}
pub use Rattle.std.proofs.lemmas.List.FromFn.{map-range_with_len_more}
pub use Rattle.std.proofs.lemmas.List.Kept.{AllPairs-from_increasing, Contains-dedup, Contains-from_dedup}
pub use Rattle.std.proofs.lemmas.List.Kept.{IsStrictlySortedBy-dedup}
pub use Rattle.std.proofs.lemmas.List.Quantifiers.{all_pairs_push, position-Some}
pub use Rattle.std.proofs.lemmas.List.Sorted.{Contains-permutation, IsNonDecreasingBy-from_default, IsPermutation-sym}
pub use Rattle.std.proofs.lemmas.List.Sorted.{searched}
pub use Rattle.std.proofs.lemmas.List.Splits.{join_with_byte-slice_split, length-slice_split, slice_split_first}
pub use Rattle.std.proofs.lemmas.List.Splits.{slice_split_none}
pub use Rattle.std.proofs.lemmas.List.Sums.{fails_before_first, position_or_len_is, prefix_len-le-length}
pub use Rattle.std.proofs.lemmas.List.Sums.{prefix_len_passes, prefix_len_stops}
pub use Rattle.std.proofs.lemmas.Map.Lookups.{btree_set_from_contains, exact_pairs, exact_signed, exact_unsigned}
pub use Rattle.std.proofs.lemmas.Map.Views.{All-found, Contains-from_any, Contains-keys_from_lookup}
pub use Rattle.std.proofs.lemmas.Map.Views.{list_any-from_Contains}
pub use Rattle.std.proofs.lemmas.Nat.{div-add-mod', div-mul-add, mul-le, mul-lt}
pub use Rattle.std.proofs.lemmas.Option.{get_or_from_slice_get, none-some, same_Some, slice_get-get_or}
pub use Rattle.std.proofs.lemmas.Option.{slice_get_within}
pub use Rattle.std.proofs.lemmas.Result.{IfOk-weaker, err_from_is_err_and, on_err_weaker, on_ok_weaker}
pub use Rattle.std.proofs.lemmas.Simd.{map-map}
pub use Rattle.std.proofs.lemmas.Slice.Eq.{bytes_eq-Decides}
pub use Rattle.std.proofs.lemmas.Slice.Zip.{AllZip-map}
pub use Rattle.std.specs.BTreeMap.{BTreeMap, IsOrdered, get, is_at, keys, values}
pub use Rattle.std.specs.Cmp.{IsEquivalence, IsTotalOrder, nat_cmp_is, tied_then}
pub use Rattle.std.specs.Fmt.{format_spec, sign_text, signed_decimal, styled_decimal}
unfoldable pub use Rattle.std.specs.Fmt.{char_count, padded_integral}
pub use Rattle.std.specs.Fn.{FnOnceReturnsAt}
pub use Rattle.std.specs.Int.{int_max, is_negative, w128}
pub use Rattle.std.specs.Io.KnownBytes.{Appends, Consumes, IsAtEnd, Keeps}
pub use Rattle.std.specs.List.{AllByRecursion, after_first, before_first, cons_option, filter_map, find, flat_map}
pub use Rattle.std.specs.List.{join_with_byte, list_all, list_any, onto_first, position_or_len, range_with_len}
pub use Rattle.std.specs.List.Sorted.{IsBinarySearchResult, IsNonDecreasingBy, IsSearchInRange, IsStrictlyIncreasing}
unfoldable pub use Rattle.std.specs.List.Sorted.{IsStrictlySortedBy}
pub use Rattle.std.specs.Map.{keys_of, values_of}
pub use Rattle.std.specs.Mem.Slots.{slots_items}
pub use Rattle.std.specs.Option.{option_map, option_or}
pub use Rattle.std.specs.Ordering.{MatchOrdering, eq_by_cmp, int_cmp, int_eq, is_eq, is_lt, nat_cmp, ordering_index}
pub use Rattle.std.specs.Ordering.{ordering_reverse, ordering_then}
pub use Rattle.std.specs.Prelude.{IsSome, OnErr, SomeIff, is_ok, position, slice_get}
pub use Rattle.std.specs.Result.{OnOk, result_ok, result_unwrap_or}
pub use Rattle.std.specs.Str.{bytes_eq}
pub use Rattle.std.specs.declared.alloc.AllocError.{AllocError}
pub use Rattle.std.specs.declared.cmp.Ordering.TheVariants.{Equal, Greater, Less}
