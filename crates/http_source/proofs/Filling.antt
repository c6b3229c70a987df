-- Rows of pixels, one under the other.
use Rattle.std.proofs.Common.{◌≡◌, ℕ, ◌+◌, ◌-◌, ◌*◌, List, ◌++◌, take, drop, length, sym, ap, ◌∙◌, arith, length-take, length-drop}
use Rattle.std.proofs.Math.Seq.{take-add}

-- the first so many rows, and one more
pub row_more : (y size : ℕ) (old new pixels row : List ℕ) → take (y * size) old ≡ take (y * size) pixels → take ((y + 1) * size) new ≡ take (y * size) old ++ row → row ≡ take size (drop (y * size) pixels) → take ((y + 1) * size) new ≡ take ((y + 1) * size) pixels
row_more y size old new pixels row before is row_is =
    let next : y * size + size ≡ (y + 1) * size = omega arith in
    is ∙ ap (λ (s : List ℕ). s ++ row) before ∙ ap (λ (s : List ℕ). take (y * size) pixels ++ s) row_is ∙ sym (take-add (y * size) size pixels) ∙ ap (λ (n : ℕ). take n pixels) next

-- the pixels of a pixmap are as many as those of a raster of its size
pub as_many : (body : List ℕ) (start w h width height : ℕ) → start + 3 * w * h ≡ length body → w ≡ width → h ≡ height → length (take (length body - start) (drop start body)) ≡ height * (width * 3)
as_many body start w h width height size w_is h_is =
    let same : 3 * w * h ≡ 3 * width * height = ap (λ (k : ℕ). 3 * k * h) w_is ∙ ap (λ (k : ℕ). 3 * width * k) h_is in
    let turned : 3 * width * height ≡ height * (width * 3) = grind arith in
    omega (arith, length-take (length body - start) (drop start body), length-drop start body, size, same, turned)
