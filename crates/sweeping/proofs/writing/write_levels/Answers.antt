-- The goals that the search leaves. Assumes nothing.
use Rattle.std.proofs.Common.{◌≡◌, ℕ, suc, ◌+◌, ◌*◌, ◌<◌, ◌≤◌, List, length, get_or, drop, sym, refl, ap, ◌∙◌, mul-le-mul_right, zero-mul, arith}
use Rattle.words.specs.Records.{tabulate, concat, part}
use Rattle.words.specs.Inner.Placed.{placed}
use Rattle.words.proofs.Records.{part_tabulated, record_next, record_fits}
use Rattle.words.proofs.Writing.{Left, left_starts, left_record, left_record_fits, left_records, left_read}
use Rattle.records.proofs.Parts.{part_at}
use Rattle.sweeping.specs.Inner.Filling.{Right}
use Rattle.sweeping.specs.Inner.Raising.{prism_size}
use Rattle.sweeping.specs.Inner.SweptWords.{level_words, all_words}
use Rattle.sweeping.proofs.SweptWords.{all_is, level-long}
use Rattle.sweeping.proofs.writing.write_levels.Given.{Over}
use Rattle.sweeping.proofs.writing.write_levels.Goals as goal
use Rattle.sweeping.proofs.writing.write_levels.Goals.{After-loop-i, Start}

abbrev levels : (g : Over) → Start g → ℕ → List ℕ
levels g c = let a = c.args in level_words g.row.D a.v a.s a.h a.table.now

abbrev Rest : (g : Over) → Start g → ℕ → ℕ → List ℕ → Type 0
Rest g c k next out =
    let all = tabulate c.args.h (levels g c) in
    Left 0 (concat all) c.args.out.now next (concat (drop k all)) out

none : (g : Over) (c : Start g) → Rest g c 0 0 c.args.out.now
none g c =
    let a = c.args in
    left_starts 0 _ a.out.now (omega (arith, c.requires.room, ap length (all_is g.row.D a.v a.s a.h a.table.now)))

-- one level more,
more : (g : Over) (c : Start g) (k cur next : ℕ) (old E : List ℕ) → k < c.args.h → Rest g c k cur old →
    next ≡ cur + length (levels g c k) → E ≡ placed cur (levels g c k) old → Rest g c (k + 1) next E
more g c k cur next old E few l place content = left_record _ k (levels g c) few l next E (record { place = place; content = content })

-- and none is left
done : (g : Over) (c : Start g) (k next : ℕ) (E : List ℕ) → c.args.h ≤ k → Rest g c k next E → let a = c.args in
    (next ≡ length (all_words g.row.D a.v a.s a.h a.table.now))
    × (E ≡ placed 0 (all_words g.row.D a.v a.s a.h a.table.now) a.out.now)
done g c k next E all l =
    let a = c.args in
    let put = left_records a.h k (levels g c) all l in
    let is = all_is g.row.D a.v a.s a.h a.table.now in
    (rw is (omega (arith, put.place)), rw is put.content)

level-size : (g : Over) (c : Start g) (k : ℕ) → length (levels g c k) ≡ c.args.s * prism_size g.row.D
level-size g c k = let a = c.args in level-long g.row.D a.v a.s a.h a.table.now c.requires.ready.long k

-- a level that is written is read in its place
read : (g : Over) (c : Start g) (n k x next e : ℕ) (E : List ℕ) → n ≡ c.args.s * prism_size g.row.D → x < c.args.h →
    x * n + n ≤ next → Rest g c k next E → e < n → Right (x * n) (levels g c x) E e
read g c n k x next e E size hx low l he =
    let all = concat (tabulate c.args.h (levels g c)) in
    let same : part n x E ≡ part n x all = left_read _ l refl (x * n) n low in
    sym (part_at n x e E 0 he) ∙ ap (λ (w : List ℕ). get_or w e 0)
    (same ∙ part_tabulated n c.args.h x (levels g c) (λ y m. level-size g c y ∙ sym size) hx)

-- at the end i is h
ended : (g : Over) (c : After-loop-i g) → c.args.h * c.level_size-n.result ≡ c.loop-i.i * c.level_size-n.result
ended g c =
    ap (λ (m : ℕ). m * c.level_size-n.result) {x = c.args.h} {y = c.loop-i.i}
    (omega (arith, c.loop-i-test.false))

pub returns-then-h-eq0 : goal.returns-then-h-eq0
returns-then-h-eq0 g c =
    let s = (goal.at.returns-then-h-eq0 g c).Start in
    let all = done g s 0 0 c.args.out.now (omega (arith, c.if-h-eq0.true)) (none g s) in
    record {
      place = all.0;
      words = all.1;
    }

pub level_size-n-requires : goal.level_size-n-requires
level_size-n-requires g c =
    let a = c.args in
    let one = mul-le-mul_right {m = 1} {n = a.h} (a.s * suc g.row.D) (omega (arith, c.if-h-eq0.false)) in
    (c.requires.ready.dimension, omega (arith, one, c.requires.ready.cells))

pub loop-i-init : goal.loop-i-init
loop-i-init g c =
    rw (zero-mul c.level_size-n.result) (none g (goal.at.loop-i-init g c).Start)

pub next_level-requires : goal.next_level-requires
next_level-requires g c =
    let s = (goal.at.next_level-requires g c).Start in
    let n = c.level_size-n.result in
    let i = c.loop-i.i in
    let few = c.loop-i-test.true in
    let size = c.level_size-n.ensures in
    let left = c.loop-i.invariant in
    let fits = left_record_fits _ i (levels g s) few left in record {
      ready = c.requires.ready;
      at = (few, size);
      below = (λ x e hx he. read g s n i x (i * n) e c.loop-i.out size (omega (arith, few)) (record_fits n i x hx) left he);
      room = omega (arith, fits, size, level-size g s i);
    }

pub loop-i-preserved : goal.loop-i-preserved
loop-i-preserved g c =
    let n = c.level_size-n.result in
    let i = c.loop-i.i in
    let few = c.loop-i-test.true in
    more g (goal.at.loop-i-preserved g c).Start i (i * n) ((i + 1) * n) c.loop-i.out _ few c.loop-i.invariant
    (omega (arith, record_next n i, c.level_size-n.ensures, level-size g (goal.at.loop-i-preserved g c).Start i)) c.next_level.ensures

pub returns : goal.returns
returns g c =
    let all = done g (goal.at.returns g c).Start c.loop-i.i _ _ c.loop-i-test.false c.loop-i.invariant in
    record {
      place = ended g c ∙ all.0;
      words = all.1;
    }
