-- A table whose wings are being made: its places are gone through by their keys, and each is paired with an earlier one that has its face.
--   Linking d n ws m      of n keys those below m are first or second, and the others have no wing
--   SameCells d s ws ws'  the cells of two tables are the same
--   Apt d ws q b p a      place b of cell q, which has no wing, can be paired with place a of cell p
--   Joined d s ws ws' q b p a     they are paired; all else is as it was
--   Linkable .. g         a table whose keys below g are linked and in their buckets, and the room for the others
use Rattle.std.specs.Prelude.{◌≡◌, ◌⊎◌, List, ℕ, suc, ◌*◌, ◌≤◌, ◌<◌, length}
use Rattle.simplex.specs.SignWords.{turned_sign}
use Rattle.records.specs.Layout.{empty, entry_in}
use Rattle.records.specs.Inner.Inside.{Table, sign_in, vertex_in, wing_in}
use Rattle.soundness.specs.Inner.Certified.{face_in}
use Rattle.soundness.specs.Inner.Hashing.{Chains, Hashes}
use Rattle.soundness.specs.Inner.Pairing.{First, Second, wing_of}

pub record Linking (d n : ℕ) (ws : List ℕ) (m : ℕ) : Type 0 where
  pub done : (g : ℕ) → g < m → First d ws m g ⊎ Second d ws g
  pub ahead : (g : ℕ) → g < n → m ≤ g → wing_of d ws g ≡ empty

pub record SameCells (d s : ℕ) (ws ws' : List ℕ) : Type 0 where
  pub long : length ws' ≡ length ws
  pub sign : (q : ℕ) → q < s → sign_in d ws' q ≡ sign_in d ws q
  pub cell : (q : ℕ) → q < s → (entry_in d ws' q).cell ≡ (entry_in d ws q).cell

pub record Apt (d : ℕ) (ws : List ℕ) (q b p a : ℕ) : Type 0 where
  pub bare : wing_in d ws q b ≡ empty
  pub face : face_in d ws q b ≡ face_in d ws p a
  pub apex : vertex_in d ws q b ≡ vertex_in d ws p a → ⊥
  pub opposite : turned_sign (sign_in d ws q) b ≡ turned_sign (sign_in d ws p) a → ⊥

pub record Joined (d s : ℕ) (ws ws' : List ℕ) (q b p a : ℕ) : Type 0 where
  pub same : SameCells d s ws ws'
  pub there : wing_in d ws' q b ≡ p
  pub back : wing_in d ws' p a ≡ q
  pub rest : (x y : ℕ) → x < s → y ≤ d → (x ≡ q → y ≡ b → ⊥) → (x ≡ p → y ≡ a → ⊥) → wing_in d ws' x y ≡ wing_in d ws x y

pub record Linkable (d s : ℕ) (ws hash head next : List ℕ) (g : ℕ) : Type 0 where
  pub table : Table d s ws
  pub wide : s * suc d ≤ length hash
  pub deep : s * suc d ≤ length next
  pub hashed : Hashes d ws hash (s * suc d)
  pub chains : Chains hash head next g
  pub linking : Linking d (s * suc d) ws g
