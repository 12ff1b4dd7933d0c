-- Keys in classes, and classes parted by a digit. class, old and new have the class of each of n keys, which is named by its last key.
--   key_digit rows k w first j g     digit j of the row of key g: of word j / 2 the upper 4 bits where j is even, else the lower 12
--   Worded rows k w first part j    every key has a word j, and part is that of place_of
--   class_at class f                 the class of key f
--   Named n class                   each class is named by its last key
--   Chaining class prev n m         the keys before m are linked by class; the last of a class keeps the link of the next before it
--   Picks n old digit new g         new has for g a key of its class with its digit, the last of these
--   Parted In n old digit new       the classes in In are parted by digit, and the others stay
--   tag c                           what marks the keys that are seen in class c
--   Seen seen c                     seen has nothing from class c or later
--   Visited c g x class seen new now    what visiting key g does to class and seen
--   Visiting n old digit new seen c m   class c is parted from key m on, where seen has the key of each digit
--   Classed n digit class j         two keys have one class where their first j digits are the same
use Rattle.std.specs.Prelude.{cond, List, ◌≡◌, ℕ, ◌+◌, ◌-◌, ◌*◌, ◌/◌, ◌%◌, ◌<◌, ◌≤◌, eqb, ltb, length, get_or, set}
use Rattle.matching.specs.Inner.Links.{last_of, Linked}
use Rattle.matching.specs.Inner.Matching.{Keyed, key_row}

unfoldable pub key_digit : List ℕ → ℕ → ℕ → ℕ → ℕ → ℕ → ℕ
key_digit rows k w first j g = let x = get_or (key_row rows k w first g) (j / 2) 0 in cond (eqb (j % 2) 0) (x / 4096) (x % 4096)

pub record Worded (rows : List ℕ) (k w first part j : ℕ) : Type 0 where
  pub keyed : Keyed rows k w first
  pub cut : part ≡ 1048576 / w + 1
  pub inside : (i : ℕ) → i < w → j < cond (ltb (first + i) k) (k - 1) k

abbrev pub class_at : List ℕ → ℕ → ℕ
class_at class f = get_or class f 0

pub record Named (n : ℕ) (class : List ℕ) : Type 0 where
  pub within : (g : ℕ) → g < n → (g ≤ get_or class g 0) × (get_or class g 0 < n)
  pub last : (g : ℕ) → g < n → get_or class (get_or class g 0) 0 ≡ get_or class g 0

pub record Chaining (class prev : List ℕ) (n m : ℕ) : Type 0 where
  pub links : Linked (class_at class) prev m
  pub heads : (c : ℕ) → m ≤ c → c < n → get_or class c 0 ≡ c → get_or prev c 0 ≡ last_of (class_at class) c m
  pub prev_long : length prev ≡ 32768

abbrev pub Picks : ℕ → List ℕ → (ℕ → ℕ) → List ℕ → ℕ → Type 0
Picks n old digit new g =
    let r = get_or new g 0 in (g ≤ r) × (r < n) × (get_or old r 0 ≡ get_or old g 0) × (digit r ≡ digit g) × (get_or new r 0 ≡ r)

pub record Parted (In : ℕ → Type 0) (n : ℕ) (old : List ℕ) (digit : ℕ → ℕ) (new : List ℕ) : Type 0 where
  pub picks : (g : ℕ) → g < n → In (get_or old g 0) → Picks n old digit new g
  pub one : (f g : ℕ) → f < n → g < n → In (get_or old g 0) → get_or old f 0 ≡ get_or old g 0 → digit f ≡ digit g → get_or new f 0 ≡ get_or new g 0
  pub rest : (g : ℕ) → g < n → (In (get_or old g 0) → ⊥) → get_or new g 0 ≡ get_or old g 0
  pub new_long : length new ≡ 32768

abbrev pub tag : ℕ → ℕ
tag c = (c + 1) * 65536

-- before class c is parted nothing is tagged by it
pub record Seen (seen : List ℕ) (c : ℕ) : Type 0 where
  pub under : (y : ℕ) → y < 4096 → get_or seen y 0 < tag c
  pub seen_long : length seen ≡ 4096

-- key g is visited: where its digit x was not seen in class c it is its own class, else that which was seen
abbrev pub Visited : ℕ → ℕ → ℕ → List ℕ → List ℕ → List ℕ → List ℕ → Type 0
Visited c g x class seen new now =
    let v = get_or seen x 0 in
    let t = ltb v (tag c) in (new ≡ set class g (cond t g (v - tag c))) × (now ≡ cond t (set seen x (tag c + g)) seen)

pub record Visiting (n : ℕ) (old : List ℕ) (digit : ℕ → ℕ) (new seen : List ℕ) (c m : ℕ) : Type 0 where
  pub here : (g : ℕ) → g < n → get_or old g 0 ≡ c → m ≤ g →
      Picks n old digit new g × (get_or seen (digit g) 0 ≡ tag c + get_or new g 0)
  pub rest : (g : ℕ) → g < n → (get_or old g 0 ≡ c → g < m) → get_or new g 0 ≡ get_or old g 0
  pub mine : (y : ℕ) → y < 4096 → tag c ≤ get_or seen y 0 →
      let s = get_or seen y 0 - tag c in (m ≤ s) × (s < n) × (get_or old s 0 ≡ c) × (digit s ≡ y) × (get_or new s 0 ≡ s)
  pub new_long : length new ≡ 32768
  pub seen_long : length seen ≡ 4096

pub record Classed (n : ℕ) (digit : ℕ → ℕ → ℕ) (class : List ℕ) (j : ℕ) : Type 0 where
  pub named : Named n class
  pub same : (f g : ℕ) → f < n → g < n → get_or class f 0 ≡ get_or class g 0 → (i : ℕ) → i < j → digit i f ≡ digit i g
  pub one : (f g : ℕ) → f < n → g < n → ((i : ℕ) → i < j → digit i f ≡ digit i g) → get_or class f 0 ≡ get_or class g 0
  pub class_long : length class ≡ 32768
