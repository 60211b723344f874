-- Bytes that are added one after another.
use Rattle.std.proofs.Common.{◌≡◌, ℕ, List, ◌++◌}
use Rattle.ssim_listing.proofs.Joining.{joined}

-- x, then y, then z
pub three_joined : (a x y z : List ℕ) {b c d : List ℕ} → b ≡ a ++ x → c ≡ b ++ y → d ≡ c ++ z
    → d ≡ a ++ (x ++ y ++ z)
three_joined a x y z e f g = joined a (x ++ y) z (joined a x y e f) g

-- four lists, one after another
pub four_joined : (a x y z w : List ℕ) {b c d e : List ℕ} → b ≡ a ++ x → c ≡ b ++ y → d ≡ c ++ z → e ≡ d ++ w
    → e ≡ a ++ (x ++ y ++ z ++ w)
four_joined a x y z w f g h i = joined a (x ++ y ++ z) w (three_joined a x y z f g h) i

-- five lists, one after another
pub five_joined : (a x y z w v : List ℕ) {b c d e f : List ℕ} → b ≡ a ++ x → c ≡ b ++ y → d ≡ c ++ z → e ≡ d ++ w → f ≡ e ++ v
    → f ≡ a ++ (x ++ y ++ z ++ w ++ v)
five_joined a x y z w v g h i j k = joined a (x ++ y ++ z ++ w) v (four_joined a x y z w g h i j) k

-- seven lists, one after another
pub seven_joined : (a x y z w v u t : List ℕ) {b c d e f g h : List ℕ} → b ≡ a ++ x → c ≡ b ++ y
    → d ≡ c ++ z → e ≡ d ++ w → f ≡ e ++ v → g ≡ f ++ u → h ≡ g ++ t
    → h ≡ a ++ (x ++ y ++ z ++ w ++ v ++ u ++ t)
seven_joined a x y z w v u t i j k l m n o =
    joined a (x ++ y ++ z ++ w ++ v ++ u) t
    (joined a (x ++ y ++ z ++ w ++ v) u (five_joined a x y z w v i j k l m) n) o
