-- Figures 3, 4 and 6 of Ferrucci and Paoluzzi: two triangles, swept twice. Paper, section 12.
-- The figures' vertices A, C, B, D, E are 0 to 4; an index 01 behind a name adds 5, and in figure 6 a last 1 adds 10.
--   plus row wings, minus row wings     an entry; o is the empty wing
--   figure4, figure6                    the entries as printed there
use Rattle.std.specs.Prelude.{◌≡◌, true, false, List, [], ◌∷◌, ℕ}
use Rattle.simplex.specs.Cell.{Row, cell}
use Rattle.records.specs.Layout.{empty, Entry, entries_of, table_words}
use Rattle.solids.specs.Accept.{Listed}
use Rattle.sweep.specs.Sweep.{SweepInput, swept_words}
use Rattle.theorems.specs.Shorthand.{spelled, list_of, swept_entries, ample}

abbrev pub o : ℕ
o = empty

abbrev pub plus : Row → List ℕ → Entry
plus w ws = record { cell = cell true 0 w; wings = ws }

abbrev pub minus : Row → List ℕ → Entry
minus w ws = record { cell = cell false 0 w; wings = ws }

-- +(A C B) and +(C D E)
abbrev pub figure3 : Listed
figure3 = list_of 2 5 (spelled "+012" ∷ spelled "+134" ∷ [])

abbrev pub figure4 : List Entry
figure4 =
    plus (0 ∷ 1 ∷ 2 ∷ 5 ∷ []) (1 ∷ o ∷ o ∷ o ∷ [])
    ∷ plus (1 ∷ 2 ∷ 5 ∷ 6 ∷ []) (2 ∷ o ∷ o ∷ 0 ∷ [])
    ∷ plus (2 ∷ 5 ∷ 6 ∷ 7 ∷ []) (o ∷ o ∷ o ∷ 1 ∷ [])
    ∷ plus (1 ∷ 3 ∷ 4 ∷ 6 ∷ []) (4 ∷ o ∷ o ∷ o ∷ [])
    ∷ plus (3 ∷ 4 ∷ 6 ∷ 8 ∷ []) (5 ∷ o ∷ o ∷ 3 ∷ [])
    ∷ plus (4 ∷ 6 ∷ 8 ∷ 9 ∷ []) (o ∷ o ∷ o ∷ 4 ∷ [])
    ∷ []

-- the sweep of figure 4
abbrev pub again : SweepInput
again = record { d = 3; v = 10; s = 6; h = 1; table = table_words figure4; room = ample }

abbrev pub figure6 : List Entry
figure6 =
    plus (0 ∷ 1 ∷ 2 ∷ 5 ∷ 10 ∷ []) (1 ∷ o ∷ o ∷ o ∷ o ∷ [])
    ∷ minus (1 ∷ 2 ∷ 5 ∷ 10 ∷ 11 ∷ []) (2 ∷ o ∷ o ∷ 4 ∷ 0 ∷ [])
    ∷ plus (2 ∷ 5 ∷ 10 ∷ 11 ∷ 12 ∷ []) (3 ∷ o ∷ 5 ∷ o ∷ 1 ∷ [])
    ∷ minus (5 ∷ 10 ∷ 11 ∷ 12 ∷ 15 ∷ []) (o ∷ 6 ∷ o ∷ o ∷ 2 ∷ [])
    ∷ plus (1 ∷ 2 ∷ 5 ∷ 6 ∷ 11 ∷ []) (5 ∷ o ∷ o ∷ 1 ∷ o ∷ [])
    ∷ minus (2 ∷ 5 ∷ 6 ∷ 11 ∷ 12 ∷ []) (6 ∷ o ∷ 2 ∷ 8 ∷ 4 ∷ [])
    ∷ plus (5 ∷ 6 ∷ 11 ∷ 12 ∷ 15 ∷ []) (7 ∷ 3 ∷ 9 ∷ o ∷ 5 ∷ [])
    ∷ minus (6 ∷ 11 ∷ 12 ∷ 15 ∷ 16 ∷ []) (o ∷ 10 ∷ o ∷ o ∷ 6 ∷ [])
    ∷ plus (2 ∷ 5 ∷ 6 ∷ 7 ∷ 12 ∷ []) (9 ∷ o ∷ o ∷ 5 ∷ o ∷ [])
    ∷ minus (5 ∷ 6 ∷ 7 ∷ 12 ∷ 15 ∷ []) (10 ∷ o ∷ 6 ∷ o ∷ 8 ∷ [])
    ∷ plus (6 ∷ 7 ∷ 12 ∷ 15 ∷ 16 ∷ []) (11 ∷ 7 ∷ o ∷ o ∷ 9 ∷ [])
    ∷ minus (7 ∷ 12 ∷ 15 ∷ 16 ∷ 17 ∷ []) (o ∷ o ∷ o ∷ o ∷ 10 ∷ [])
    ∷ plus (1 ∷ 3 ∷ 4 ∷ 6 ∷ 11 ∷ []) (13 ∷ o ∷ o ∷ o ∷ o ∷ [])
    ∷ minus (3 ∷ 4 ∷ 6 ∷ 11 ∷ 13 ∷ []) (14 ∷ o ∷ o ∷ 16 ∷ 12 ∷ [])
    ∷ plus (4 ∷ 6 ∷ 11 ∷ 13 ∷ 14 ∷ []) (15 ∷ o ∷ 17 ∷ o ∷ 13 ∷ [])
    ∷ minus (6 ∷ 11 ∷ 13 ∷ 14 ∷ 16 ∷ []) (o ∷ 18 ∷ o ∷ o ∷ 14 ∷ [])
    ∷ plus (3 ∷ 4 ∷ 6 ∷ 8 ∷ 13 ∷ []) (17 ∷ o ∷ o ∷ 13 ∷ o ∷ [])
    ∷ minus (4 ∷ 6 ∷ 8 ∷ 13 ∷ 14 ∷ []) (18 ∷ o ∷ 14 ∷ 20 ∷ 16 ∷ [])
    ∷ plus (6 ∷ 8 ∷ 13 ∷ 14 ∷ 16 ∷ []) (19 ∷ 15 ∷ 21 ∷ o ∷ 17 ∷ [])
    ∷ minus (8 ∷ 13 ∷ 14 ∷ 16 ∷ 18 ∷ []) (o ∷ 22 ∷ o ∷ o ∷ 18 ∷ [])
    ∷ plus (4 ∷ 6 ∷ 8 ∷ 9 ∷ 14 ∷ []) (21 ∷ o ∷ o ∷ 17 ∷ o ∷ [])
    ∷ minus (6 ∷ 8 ∷ 9 ∷ 14 ∷ 16 ∷ []) (22 ∷ o ∷ 18 ∷ o ∷ 20 ∷ [])
    ∷ plus (8 ∷ 9 ∷ 14 ∷ 16 ∷ 18 ∷ []) (23 ∷ 19 ∷ o ∷ o ∷ 21 ∷ [])
    ∷ minus (9 ∷ 14 ∷ 16 ∷ 18 ∷ 19 ∷ []) (o ∷ o ∷ o ∷ o ∷ 22 ∷ [])
    ∷ []

pub record Figures : Type 0 where
  pub swept_once : swept_entries 1 figure3 ≡ figure4
  pub swept-twice : entries_of 4 24 (swept_words again) ≡ figure6
