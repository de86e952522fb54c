-- What each way of meeting says of the four directions.
use Rattle.std.proofs.Common.{◌≡◌, ℕ, Bool, true, false, cond, ◌||◌, eqb, leb, refl, ◌∙◌, arith}
use Rattle.plane.specs.Edges.{Edge, direction, straight?, first, second, zeros, one_sided?}
use Rattle.plane.specs.Rounding.{zero?}
use Rattle.plane.specs.Rules.{Inner}
use Rattle.plane.specs.Answers.{meeting, meeting_by, end_met}
use Rattle.plane.specs.declared.direction.Direction.{Direction}
use Rattle.plane.specs.declared.meeting.Meeting.{Meeting}
use Rattle.plane.specs.declared.meeting.Meeting.TheVariants.{Aligned, Apart, OtherA, OtherB, TargetA, TargetB, Crossed}
use Rattle.plane.proofs.Tests.{neither}
use Rattle.plane.proofs.Turns.{zero_straight}

-- one direction is zero, and no edge has both ends on one side of the other
pub record Single (t o : Edge) : Type 0 where
  pub one : zeros t o ≡ 1
  pub two_sided : one_sided? t o ≡ false

-- how the four directions fall out
abbrev pub Met : Edge → Edge → Meeting → Type 0
Met t o Aligned = zeros t o ≡ 4
Met t o Apart = (eqb (zeros t o) 4 ≡ false) × ((leb 2 (zeros t o) || one_sided? t o) ≡ true)
Met t o OtherA = Single t o × (zero? (first t o) ≡ true)
Met t o OtherB = Single t o × (zero? (first t o) ≡ false) × (zero? (second t o) ≡ true)
Met t o TargetA = Single t o × (zero? (first t o) ≡ false) × (zero? (second t o) ≡ false) × (zero? (first o t) ≡ true)
Met t o TargetB = Single t o × (zero? (first t o) ≡ false) × (zero? (second t o) ≡ false) × (zero? (first o t) ≡ false)
Met t o Crossed = Inner t o

pub by_cond : {X : Type 0} (P : X → Type 0) (b : Bool) (x y : X) → (b ≡ true → P x) → (b ≡ false → P y) → P (cond b x y)
by_cond P true x y f g = f refl
by_cond P false x y f g = g refl

is_four : (n : ℕ) → eqb n 4 ≡ true → n ≡ 4
is_four n h = grind arith

is_zero : (n : ℕ) → eqb n 0 ≡ true → n ≡ 0
is_zero n h = grind arith

is_one : (n : ℕ) → leb 2 n ≡ false → eqb n 0 ≡ false → n ≡ 1
is_one n h g = grind arith

met_end : (t o : Edge) → Single t o → Met t o (end_met (direction (first t o)) (direction (second t o)) (direction (first o t)))
met_end t o s =
    by_cond (Met t o) (straight? (direction (first t o))) _ _
    (λ a. (s, zero_straight (first t o) ∙ a))
    (λ a. by_cond (Met t o) (straight? (direction (second t o))) _ _
    (λ b. (s, zero_straight (first t o) ∙ a, zero_straight (second t o) ∙ b))
    (λ b. by_cond (Met t o) (straight? (direction (first o t))) _ _
    (λ c. (s, zero_straight (first t o) ∙ a, zero_straight (second t o) ∙ b, zero_straight (first o t) ∙ c))
    (λ c. (s, zero_straight (first t o) ∙ a, zero_straight (second t o) ∙ b, zero_straight (first o t) ∙ c))))

pub met : (t o : Edge) → Met t o (meeting t o)
unfolding meeting
met t o =
    by_cond (Met t o) (eqb (zeros t o) 4) _ _
    (λ a. is_four (zeros t o) a)
    (λ a. by_cond (Met t o) (leb 2 (zeros t o) || one_sided? t o) _ _
    (λ b. (a, b))
    (λ b. let w = neither (leb 2 (zeros t o)) (one_sided? t o) b in
    by_cond (Met t o) (eqb (zeros t o) 0) _ _
    (λ c. record { none = is_zero (zeros t o) c; two_sided = w.1 })
    (λ c. met_end t o (record { one = is_one (zeros t o) w.0 c; two_sided = w.1 }))))

pub meeting_same : (a b c d a' b' c' d' : Direction) → a ≡ a' → b ≡ b' → c ≡ c' → d ≡ d' → meeting_by a b c d ≡ meeting_by a' b' c' d'
meeting_same a b c d a' b' c' d' p q r s = rw (p, q, r, s)
