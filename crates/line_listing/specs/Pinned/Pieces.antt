-- What a call of the writer puts, and that calls one behind the other hand on the whole listing.
-- Definitions only: `pieces_join` of proofs/ proves it, so that a reader need not believe them.
use Rattle.std.specs.Prelude.{ℕ, ◌+◌, ◌-◌, ◌/◌, ◌≤◌, ◌<◌, min, ◌≡◌, List, [], ◌∷◌, ◌++◌, length, take, drop}
use Rattle.rules.specs.declared.{Point.Point, Register.Register}
use Rattle.line_text.specs.Between.Appending.{put}
use Rattle.line_listing.specs.declared.{Listed.Listed}
use Rattle.line_listing.specs.Pinned.Listing.{listing_from, listing}

-- The lines of one point have at most 1,443 bytes, so that a call takes as many points as surely fit.
abbrev pub taken : ℕ → ℕ → ℕ
taken from room = min (32 - from) (room / 1443)

-- The lines of n points behind the first ones.
abbrev pub lines_behind : ℕ → ℕ → List Point → List ℕ
lines_behind from n gs = listing_from (from + 1) (take n (drop from gs))

-- What a call lists, where the first points are listed already.
abbrev pub piece : Register → ℕ → ℕ → List ℕ
piece r from room = lines_behind from (taken from room) r.points

-- The call's text stands at the start of the buffer, the rest of which stays; the answer tells how far it came.
pub record ListedFrom (r : Register) (from : ℕ) (before after : List ℕ) (x : Listed) : Type 0 where
  pub bytes : after ≡ put 0 (piece r from (length before)) before
  pub answer : x ≡ record { next = from + taken from (length before); written = length (piece r from (length before)) }

-- The texts of calls one behind the other, each with its room and from where the one before it came to.
unfoldable pub pieces : Register → ℕ → List ℕ → List ℕ
pieces r from [] = []
pieces r from (room ∷ rooms) = piece r from room ++ pieces r (from + taken from room) rooms

-- Where they come to.
unfoldable pub reached : ℕ → List ℕ → ℕ
reached from [] = from
reached from (room ∷ rooms) = reached (from + taken from room) rooms

-- What is still to be listed behind the first points.
abbrev pub left : Register → ℕ → List ℕ
left r from = listing_from (from + 1) (drop from r.points)

pub record PiecesJoin : Type 0 where
  -- A call's text and what it leaves are what was left before it.
  pub one : (r : Register) (from room : ℕ) → piece r from room ++ left r (from + taken from room) ≡ left r from
  -- With room for one point at least, a call takes one while there is one.
  pub goes_on : (from room : ℕ) → from < 32 → 1443 ≤ room → from < from + taken from room
  -- No call goes past the last point.
  pub in_range : (from room : ℕ) → from ≤ 32 → from + taken from room ≤ 32
  -- Calls that come to the last of the 32 points hand on exactly the register's listing.
  pub all : (r : Register) (rooms : List ℕ) → length r.points ≡ 32 → reached 0 rooms ≡ 32 →
      pieces r 0 rooms ≡ listing r
