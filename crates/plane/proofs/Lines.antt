-- A point on the lines of two edges: how it stands to their four ends is told by the four cross products.
use Rattle.std.proofs.Common.{◌≡◌, ◌≢◌, ◌⊎◌, List, [], ◌∷◌, ℤ, pos, ◌-ℤ◌, ◌*ℤ◌, neg_ℤ, ◌<ℤ◌, sym, refl, ap, ◌∙◌, inl, inr, arith}
use borrow.Author.Differences.{ints}
use lib.IntN.{zero-*ℤ, *ℤ_comm}
use Rattle.algebra.proofs.Ring.{Ex, v, k, ◌⊕◌, ◌⊖◌, ◌⊗◌, ⊝, ◌≐◌, ring, ring₄, ring₅, ring₆}
use Rattle.algebra.proofs.Laws.{neg_mul}
use Rattle.plane.specs.Points.{Point, cross}
use Rattle.plane.specs.Edges.{Edge, Proper, first, second}
use Rattle.plane.specs.Fractions.{Frac, den, by, whole, Alike, Line}
use Rattle.plane.proofs.Signs.{den_pos, neg_pos, neg_zero, by_sign, zero_of_mul, linked_two, zero_of_three, no_gap, Ahead, ahead_x, ahead_y}
use Rattle.plane.proofs.Points.{point_ext, →ahead, Side, side}

-- e × g
abbrev pub turn : Edge → Edge → ℤ
turn e g = (e.b.x -ℤ e.a.x) *ℤ (g.b.y -ℤ g.a.y) -ℤ (e.b.y -ℤ e.a.y) *ℤ (g.b.x -ℤ g.a.x)

-- both edges are on one line
pub record Aligned (e g : Edge) : Type 0 where
  pub ga : first e g ≡ pos 0
  pub gb : second e g ≡ pos 0
  pub ea : first g e ≡ pos 0
  pub eb : second g e ≡ pos 0

pub aligned_sym : {e g : Edge} → Aligned e g → Aligned g e
aligned_sym z = record { ga = z.ea; gb = z.eb; ea = z.ga; eb = z.gb }

-- ---- three points
pub at_first : (p q : Point) → cross p q p ≡ pos 0
at_first p q = ring₄ (λ px py qx qy. (qx ⊖ px) ⊗ (py ⊖ py) ⊖ (qy ⊖ py) ⊗ (px ⊖ px) ≐ k (pos 0)) tt p.x p.y q.x q.y

pub at_second : (p q : Point) → cross p q q ≡ pos 0
at_second p q = ring₄ (λ px py qx qy. (qx ⊖ px) ⊗ (qy ⊖ py) ⊖ (qy ⊖ py) ⊗ (qx ⊖ px) ≐ k (pos 0)) tt p.x p.y q.x q.y

pub swapped : (p q r : Point) → cross p r q ≡ neg_ℤ (cross p q r)
swapped p q r = ring₆ (λ px py qx qy rx ry. (rx ⊖ px) ⊗ (qy ⊖ py) ⊖ (ry ⊖ py) ⊗ (qx ⊖ px) ≐ ⊝ ((qx ⊖ px) ⊗ (ry ⊖ py) ⊖ (qy ⊖ py) ⊗ (rx ⊖ px))) tt
    p.x p.y q.x q.y r.x r.y

pub round : (p q r : Point) → cross r q p ≡ neg_ℤ (cross p q r)
round p q r = ring₆ (λ px py qx qy rx ry. (qx ⊖ rx) ⊗ (py ⊖ ry) ⊖ (qy ⊖ ry) ⊗ (px ⊖ rx) ≐ ⊝ ((qx ⊖ px) ⊗ (ry ⊖ py) ⊖ (qy ⊖ py) ⊗ (rx ⊖ px))) tt
    p.x p.y q.x q.y r.x r.y

-- ---- the coordinates of e and of g, and a point with its denominator, as variables
abbrev axs : Edge → Edge → Frac → List ℤ
axs e g f =
    e.a.x ∷ e.a.y ∷ e.b.x ∷ e.b.y ∷ g.a.x ∷ g.a.y ∷ g.b.x ∷ g.b.y ∷ f.at.x ∷ f.at.y ∷ den f ∷ []

abbrev ax : Ex
ax = v 0

abbrev ay : Ex
ay = v 1

abbrev bx : Ex
bx = v 2

abbrev by' : Ex
by' = v 3

abbrev cx : Ex
cx = v 4

abbrev cy : Ex
cy = v 5

abbrev dx : Ex
dx = v 6

abbrev dy : Ex
dy = v 7

abbrev fx : Ex
fx = v 8

abbrev fy : Ex
fy = v 9

abbrev D : Ex
D = v 10

abbrev X : (px py qx qy rx ry : Ex) → Ex
X px py qx qy rx ry = (qx ⊖ px) ⊗ (ry ⊖ py) ⊖ (qy ⊖ py) ⊗ (rx ⊖ px)

abbrev GA : Ex
GA = X cx cy dx dy ax ay

abbrev GB : Ex
GB = X cx cy dx dy bx by'

abbrev EC : Ex
EC = X ax ay bx by' cx cy

abbrev ED : Ex
ED = X ax ay bx by' dx dy

abbrev N : Ex
N = (bx ⊖ ax) ⊗ (dy ⊖ cy) ⊖ (by' ⊖ ay) ⊗ (dx ⊖ cx)

abbrev Le : Ex
Le = (bx ⊖ ax) ⊗ (fy ⊖ D ⊗ ay)

abbrev RE : Ex
RE = (by' ⊖ ay) ⊗ (fx ⊖ D ⊗ ax)

abbrev LG : Ex
LG = (dx ⊖ cx) ⊗ (fy ⊖ D ⊗ cy)

abbrev RG : Ex
RG = (dy ⊖ cy) ⊗ (fx ⊖ D ⊗ cx)

-- an edge whose ends are on e's line has that line
pub same_line : (e g : Edge) (f : Frac) → Proper e → first e g ≡ pos 0 → second e g ≡ pos 0 → Line e f → Line g f
same_line e g f pe za zb h = go (→ahead pe)
  where
    go : Ahead (e.b.x -ℤ e.a.x) (e.b.y -ℤ e.a.y) → Line g f
    go (ahead_x u) = sym (no_gap _ _ (zero_of_mul (e.b.x -ℤ e.a.x) _ u (zero_of_three _ _ _ (g.b.x -ℤ g.a.x) (first e g) _ (second e g) _
        (ring (axs e g f) ((bx ⊖ ax) ⊗ (LG ⊖ RG)) ((dx ⊖ cx) ⊗ (Le ⊖ RE) ⊕ ((fx ⊖ D ⊗ cx) ⊖ (dx ⊖ cx) ⊗ D) ⊗ EC ⊕ ⊝ (fx ⊖ D ⊗ cx) ⊗ ED) tt) h za zb)))
    go (ahead_y z u) = sym (no_gap _ _ (zero_of_mul (e.b.y -ℤ e.a.y) _ u (zero_of_three _ _ _ (g.b.y -ℤ g.a.y) (first e g) _ (second e g) _
        (ring (axs e g f) ((by' ⊖ ay) ⊗ (LG ⊖ RG)) ((dy ⊖ cy) ⊗ (Le ⊖ RE) ⊕ ((fy ⊖ D ⊗ cy) ⊖ (dy ⊖ cy) ⊗ D) ⊗ EC ⊕ ⊝ (fy ⊖ D ⊗ cy) ⊗ ED) tt) h za zb)))

-- m (f - D a) = (D p) u, and m (D b - f) = (D (- q)) u
record Pull (e : Edge) (f : Frac) (m p q : ℤ) : Type 0 where
  ax_is : m *ℤ (f.at.x -ℤ den f *ℤ e.a.x) ≡ (den f *ℤ p) *ℤ (e.b.x -ℤ e.a.x)
  ay_is : m *ℤ (f.at.y -ℤ den f *ℤ e.a.y) ≡ (den f *ℤ p) *ℤ (e.b.y -ℤ e.a.y)
  bx_is : m *ℤ (den f *ℤ e.b.x -ℤ f.at.x) ≡ (den f *ℤ neg_ℤ q) *ℤ (e.b.x -ℤ e.a.x)
  by_is : m *ℤ (den f *ℤ e.b.y -ℤ f.at.y) ≡ (den f *ℤ neg_ℤ q) *ℤ (e.b.y -ℤ e.a.y)

pull : (e g : Edge) (f : Frac) → Line e f → Line g f → Pull e f (turn e g) (first g e) (second g e)
pull e g f he hg = record {
  ax_is = linked_two _ _ _ _ _ _ _ _ (ring (axs e g f) (N ⊗ (fx ⊖ D ⊗ ax) ⊖ (D ⊗ GA) ⊗ (bx ⊖ ax)) ((dx ⊖ cx) ⊗ (Le ⊖ RE) ⊖ (bx ⊖ ax) ⊗ (LG ⊖ RG)) tt) he hg;
  ay_is = linked_two _ _ _ _ _ _ _ _ (ring (axs e g f) (N ⊗ (fy ⊖ D ⊗ ay) ⊖ (D ⊗ GA) ⊗ (by' ⊖ ay)) ((dy ⊖ cy) ⊗ (Le ⊖ RE) ⊖ (by' ⊖ ay) ⊗ (LG ⊖ RG)) tt) he hg;
  bx_is = linked_two _ _ _ _ _ _ _ _ (ring (axs e g f) (N ⊗ (D ⊗ bx ⊖ fx) ⊖ (D ⊗ ⊝ GB) ⊗ (bx ⊖ ax)) ((bx ⊖ ax) ⊗ (LG ⊖ RG) ⊖ (dx ⊖ cx) ⊗ (Le ⊖ RE)) tt) hg he;
  by_is = linked_two _ _ _ _ _ _ _ _ (ring (axs e g f) (N ⊗ (D ⊗ by' ⊖ fy) ⊖ (D ⊗ ⊝ GB) ⊗ (by' ⊖ ay)) ((by' ⊖ ay) ⊗ (LG ⊖ RG) ⊖ (dy ⊖ cy) ⊗ (Le ⊖ RE)) tt) hg he;
}

-- the same with all signs turned
pull_neg : (e : Edge) (f : Frac) (m p q : ℤ) → Pull e f m p q → Pull e f (neg_ℤ m) (neg_ℤ p) (neg_ℤ q)
pull_neg e f m p q h = record {
  ax_is = turned m _ (den f) p _ h.ax_is;
  ay_is = turned m _ (den f) p _ h.ay_is;
  bx_is = turned m _ (den f) (neg_ℤ q) _ h.bx_is;
  by_is = turned m _ (den f) (neg_ℤ q) _ h.by_is;
}
  where
    turned : (m f d s u : ℤ) → m *ℤ f ≡ (d *ℤ s) *ℤ u → neg_ℤ m *ℤ f ≡ (d *ℤ neg_ℤ s) *ℤ u
    turned m f d s u e = neg_mul m f ∙ ap neg_ℤ e ∙ sym (ring₅ (λ m f d s u. (d ⊗ ⊝ s) ⊗ u ≐ ⊝ ((d ⊗ s) ⊗ u)) tt m f d s u)

-- how f stands to the ends of e
pub record Sides (e : Edge) (f : Frac) (p q : ℤ) : Type 0 where
  pub from : Side p (by f e.a) f.at
  pub to : Side (neg_ℤ q) f.at (by f e.b)

sides : (e : Edge) (f : Frac) (m p q : ℤ) → Proper e → pos 0 <ℤ m → Pull e f m p q → Sides e f p q
sides e f m p q h l w = record {
  from = side (den f) m p _ _ (by f e.a) f.at (den_pos f.k) l (→ahead h) w.ax_is w.ay_is;
  to = side (den f) m (neg_ℤ q) _ _ f.at (by f e.b) (den_pos f.k) l (→ahead h) w.bx_is w.by_is;
}

-- ---- where the lines are parallel, or one
level : (d s ux uy : ℤ) → pos 0 <ℤ d → Ahead ux uy → (d *ℤ s) *ℤ ux ≡ pos 0 → (d *ℤ s) *ℤ uy ≡ pos 0 → s ≡ pos 0
level d s ux uy h (ahead_x u) ex ey = zero_of_mul d s h (zero_of_mul ux (d *ℤ s) u (*ℤ_comm ux (d *ℤ s) ∙ ex))
level d s ux uy h (ahead_y z u) ex ey = zero_of_mul d s h (zero_of_mul uy (d *ℤ s) u (*ℤ_comm uy (d *ℤ s) ∙ ey))

level_ends : (e : Edge) (f : Frac) (m p q : ℤ) → Proper e → m ≡ pos 0 → Pull e f m p q → (p ≡ pos 0) × (q ≡ pos 0)
level_ends e f m p q h z w = (
  level (den f) p _ _ (den_pos f.k) (→ahead h) (still _ _ w.ax_is) (still _ _ w.ay_is),
  neg_zero q (level (den f) (neg_ℤ q) _ _ (den_pos f.k) (→ahead h) (still _ _ w.bx_is) (still _ _ w.by_is)),
)
  where
    still : (f w : ℤ) → m *ℤ f ≡ w → w ≡ pos 0
    still f w h = sym h ∙ ap (λ x. x *ℤ f) z ∙ zero-*ℤ f

turn_back : (e g : Edge) → turn g e ≡ neg_ℤ (turn e g)
turn_back e g = ring (axs e g (whole e.a)) ((dx ⊖ cx) ⊗ (by' ⊖ ay) ⊖ (dy ⊖ cy) ⊗ (bx ⊖ ax)) (⊝ N) tt

-- the difference of the cross products of one edge's ends is that turn
pub turn_is : (e g : Edge) → turn e g ≡ first g e -ℤ second g e
turn_is e g = ring (axs e g (whole e.a)) N (GA ⊖ GB) tt

-- a common point of parallel lines: they are one line
pub one_line : (e g : Edge) (f : Frac) → Proper e → Proper g → Line e f → Line g f → turn e g ≡ pos 0 → Aligned e g
one_line e g f pe pg he hg z =
    let this = level_ends e f (turn e g) _ _ pe z (pull e g f he hg) in
    let that = level_ends g f (turn g e) _ _ pg (turn_back e g ∙ ap neg_ℤ z) (pull g e f hg he) in
    record { ga = that.0; gb = that.1; ea = this.0; eb = this.1 }

-- ---- the four signs, turned so that the first end of either edge has the greater
pub data Which (e g : Edge) (m p q r s : ℤ) : Type 0 where
  left : m ≡ turn e g → p ≡ first g e → q ≡ second g e → r ≡ neg_ℤ (first e g) → s ≡ neg_ℤ (second e g) → Which e g m p q r s
  right : m ≡ neg_ℤ (turn e g) → p ≡ neg_ℤ (first g e) → q ≡ neg_ℤ (second g e) → r ≡ first e g → s ≡ second e g → Which e g m p q r s

pub record Signs (e g : Edge) (m p q r s : ℤ) : Type 0 where
  pub turns : pos 0 <ℤ m
  pub this : m ≡ p -ℤ q
  pub that : m ≡ r -ℤ s
  pub which : Which e g m p q r s

abbrev pub Signed : Edge → Edge → Type 0
Signed e g = (m : ℤ) × (p : ℤ) × (q : ℤ) × (r : ℤ) × (s : ℤ) × Signs e g m p q r s

pub signed : (e g : Edge) → (turn e g ≡ pos 0) ⊎ Signed e g
signed e g =
    by_sign (turn e g)
    (λ l. inr (
      neg_ℤ (turn e g),
      neg_ℤ (first g e),
      neg_ℤ (second g e),
      first e g,
      second e g,
      record {
        turns = neg_pos (turn e g) l;
        this = negs (turn e g) (first g e) (second g e) (turn_is e g);
        that = sym (turn_back e g) ∙ turn_is g e;
        which = right refl refl refl refl refl;
      },
    ))
    (λ z. inl z)
    (λ l. inr (
      turn e g,
      first g e,
      second g e,
      neg_ℤ (first e g),
      neg_ℤ (second e g),
      record {
        turns = l;
        this = turn_is e g;
        that = flip (turn e g) (turn g e) (first e g) (second e g) (turn_back e g) (turn_is g e);
        which = left refl refl refl refl refl;
      },
    ))
  where
    negs : (m a b : ℤ) → m ≡ a -ℤ b → neg_ℤ m ≡ neg_ℤ a -ℤ neg_ℤ b
    negs m a b e = omega (arith, ints)

    flip : (m n a b : ℤ) → n ≡ neg_ℤ m → n ≡ a -ℤ b → m ≡ neg_ℤ a -ℤ neg_ℤ b
    flip m n a b e f = omega (arith, ints)

pub turns_on : {e g : Edge} {m p q r s : ℤ} → Signs e g m p q r s → turn e g ≢ pos 0
turns_on {e} {g} {m} {p} {q} {r} {s} t z = go t.which
  where
    yes : (m n : ℤ) → pos 0 <ℤ m → n ≡ pos 0 → m ≡ n → ⊥
    yes m n l z e = omega (arith, ints)

    no : (m n : ℤ) → pos 0 <ℤ m → n ≡ pos 0 → m ≡ neg_ℤ n → ⊥
    no m n l z e = omega (arith, ints)

    go : Which e g m p q r s → ⊥
    go (left w i j n l) = yes m (turn e g) t.turns z w
    go (right w i j n l) = no m (turn e g) t.turns z w

-- then the four signs tell how a common point of the lines stands to the four ends
pub meet : {e g : Edge} {m p q r s : ℤ} (f : Frac) → Signs e g m p q r s → Proper e → Proper g → Line e f → Line g f → Sides e f p q × Sides g f r s
meet {e} {g} {m} {p} {q} {r} {s} f t pe pg he hg = go t.which
  where
    one : Pull e f (turn e g) (first g e) (second g e)
    one = pull e g f he hg

    two : Pull g f (turn g e) (first e g) (second e g)
    two = pull g e f hg he

    moved : (e : Edge) (m p q m' p' q' : ℤ) → m ≡ m' → p ≡ p' → q ≡ q' → Pull e f m' p' q' → Pull e f m p q
    moved e m p q m' p' q' x y z w = rw (x, y, z) w

    go : Which e g m p q r s → Sides e f p q × Sides g f r s
    go (left w i j n l) = (
      sides e f m p q pe t.turns (moved e m p q _ _ _ w i j one),
      sides g f m r s pg t.turns (moved g m r s _ _ _ (w ∙ turn_back g e) n l (pull_neg g f _ _ _ two)),
    )
    go (right w i j n l) = (
      sides e f m p q pe t.turns (moved e m p q _ _ _ w i j (pull_neg e f _ _ _ one)),
      sides g f m r s pg t.turns (moved g m r s _ _ _ (w ∙ sym (turn_back e g)) n l two),
    )

-- ---- two common points
once : (m x x' d d' a s u : ℤ) → pos 0 <ℤ m → m *ℤ (x -ℤ d *ℤ a) ≡ (d *ℤ s) *ℤ u → m *ℤ (x' -ℤ d' *ℤ a) ≡ (d' *ℤ s) *ℤ u → d' *ℤ x ≡ d *ℤ x'
once m x x' d d' a s u h e f =
    sym (no_gap (d *ℤ x') (d' *ℤ x) (zero_of_mul m (d' *ℤ x -ℤ d *ℤ x') h
    (linked_two (m *ℤ (d' *ℤ x -ℤ d *ℤ x')) (pos 0) d' d _ _ _ _
    (ring (m ∷ x ∷ x' ∷ d ∷ d' ∷ a ∷ s ∷ u ∷ [])
    (v 0 ⊗ (v 4 ⊗ v 1 ⊖ v 3 ⊗ v 2) ⊖ k (pos 0))
    (v 4 ⊗ (v 0 ⊗ (v 1 ⊖ v 3 ⊗ v 5) ⊖ (v 3 ⊗ v 6) ⊗ v 7) ⊖ v 3 ⊗ (v 0 ⊗ (v 2 ⊖ v 4 ⊗ v 5) ⊖ (v 4 ⊗ v 6) ⊗ v 7)) tt)
    e f)))

pub once_or_aligned : (e g : Edge) (f h : Frac) → Proper e → Proper g → Line e f → Line g f → Line e h → Line g h → Aligned e g ⊎ Alike f h
once_or_aligned e g f h pe pg he hg he' hg' =
    by_sign (turn e g)
    (λ l. inr (both (neg_ℤ (turn e g)) _ _ (neg_pos (turn e g) l) (pull_neg e f _ _ _ (pull e g f he hg)) (pull_neg e h _ _ _ (pull e g h he' hg'))))
    (λ z. inl (one_line e g f pe pg he hg z))
    (λ l. inr (both (turn e g) _ _ l (pull e g f he hg) (pull e g h he' hg')))
  where
    both : (m p q : ℤ) → pos 0 <ℤ m → Pull e f m p q → Pull e h m p q → Alike f h
    both m p q l i w = point_ext
        (once m _ _ (den f) (den h) _ p _ l i.ax_is w.ax_is)
        (once m _ _ (den f) (den h) _ p _ l i.ay_is w.ay_is)
