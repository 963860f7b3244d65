-- The words that proofs are written in: equality, truth values, lists, numbers, tests, and what the prover searches
-- by. They are the kit's; a proof takes them from here.
pub use mathlib.Core.Path.{◌≡◌, refl, sym, ◌∙◌, ap, ap₂, subst, fun_ext, subst₂}
pub use mathlib.Core.Bool.{true, false, Bool, cond, ◌&&◌, false≢true, ◌||◌, not, and-eq-true_iff, true≢false}
pub use mathlib.Core.Bool.{and-false, or-true}
pub use mathlib.Core.Option.{some, Option, none}
pub use mathlib.Core.List.{List, [], ◌∷◌, ◌++◌, append_assoc, append-nil, map, reverse_aux, reverse}
pub use Prim.Native.Nat.{◌≤◌, ℕ, ◌-◌, ◌+◌, ◌<◌, suc, zero, ◌*◌, ◌^◌, min, ◌/◌, ◌%◌, max}
pub use native.Mathlib.Nat.{add-zero, not-suc-le-zero, le_trans, zero-add, mul-le-mul_right, add_assoc}
pub use native.Mathlib.Nat.{pow-le-pow_right, add-suc, suc-add, le_of_suc-le-suc, mul-le-mul_left, mul-div_left}
pub use native.Mathlib.Nat.{mul_comm, mul-zero, zero-mul, zero-div, mod-eq_of_lt, mul-le-mul, sub_self}
pub use native.Mathlib.Nat.{le-div_iff_mul-le, div-mul-le_self, mul-sub, mul_assoc, div-le_of_le-mul, eq-or-lt_of_le}
pub use native.Mathlib.Numerals.{add-one, towards_suc}
pub use native.Mathlib.Decide.{dec_le, dec_lt, ℕ_discrete}
pub use native.Mathlib.Omega.{arith}
pub use lib.Dec.{eqb, ltb, leb, lit≤}
pub use lib.ListN.{length, drop, take, get_or, set, length-set, length-append, length-drop, replicate, drop_of_length-le}
pub use lib.ListN.{take-append-drop, length-take, length-replicate, length-map, get_or-map as list_get_d_map, get_or-replicate}
pub use lib.Seq.{length-take-le, drop-cons, take_all, drop-drop, take_at, drop_at, paste, take-suc, get_or-set_same}
pub use lib.Seq.{get_or-drop, drop-set-lt, set-get_or, drop-length, paste-zero, paste-suc, length-paste, take-suc-set}
pub use lib.Seq.{take-set-le, take-add, get_or-set_other, append_snoc, take-append_seam, take-length, get_or-take}
pub use lib.Seq.{take-set-lt, drop-set-add, get_or-append_seam, set_comm, set_out, take-take, set_split, sets, sets-eq}
pub use lib.Seq.{length-sets, take-append-add, map-set_same}
pub use borrow.Author.Tests.{lt-ltb, le-leb, le-ltb, lt-leb, ne_eqb, eq-eqb, ltb-false, eqb-true, not-true, ltb-true}
pub use borrow.Author.Tests.{not-false, leb-true, leb-false, eqb-false}
pub use borrow.Table.Steps.{cases}
pub use borrow.Author.Rules.{rules}
