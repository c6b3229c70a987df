-- A box on the ground: a list of four decimal texts, the least x and y and the greatest x and y. The form of all four is
-- tested first, then their limits, then their order.
use Rattle.std.specs.Prelude.{ℤ, ◌&&◌, int_le, if◌then◌else◌, List, [], ◌∷◌, Option, Some, None, ok_or, Ok, Err}
use Rattle.serde_json.specs.Data.{Data}
use Rattle.json_forms.specs.Decimals.{decimal_text}
use Rattle.json_forms.specs.Forms.{values_of}
use Rattle.json_forms.specs.declared.decimal.DecimalText.{DecimalText}
use Rattle.json_forms.specs.declared.decimal.DecimalText.TheVariants.{Number, TooLong}
use Rattle.matrix_geometry.specs.declared.boxes.Box9.{Box9}
use Rattle.matrix_geometry.specs.Making.{coordinate_of}
use Rattle.job_forms.specs.declared.fault.JobField.TheVariants as field
use Rattle.job_forms.specs.declared.fault.JobFault.TheVariants.{Bad, Limit}
use Rattle.job_forms.specs.Outcome.{Outcome, ◌>>=◌}

-- four values
abbrev pub four : List Data → Option (Data × Data × Data × Data)
four (a ∷ b ∷ c ∷ d ∷ []) = Some (a, b, c, d)
four [] = None
four (a ∷ []) = None
four (a ∷ b ∷ []) = None
four (a ∷ b ∷ c ∷ []) = None
four (a ∷ b ∷ c ∷ d ∷ e ∷ rest) = None

-- a decimal text
abbrev pub bound : Data → Outcome DecimalText
bound d = ok_or (decimal_text d) (Bad field.Bounds)

-- in billionths: at most 10^8 units in size, and a whole number of billionths
abbrev pub limited : DecimalText → Outcome ℤ
limited TooLong = Err (Limit field.Bounds)
limited (Number x) = ok_or (coordinate_of x) (Limit field.Bounds)

-- no least coordinate is above the greatest
abbrev pub in_order : Box9 → Outcome Box9
in_order b = if int_le b.min_x b.max_x && int_le b.min_y b.max_y then Ok b else Err (Bad field.Bounds)

unfoldable pub box_of : Data → Outcome Box9
box_of d = do
  values ← ok_or (values_of d) (Bad field.Bounds)
  edges ← ok_or (four values) (Bad field.Bounds)
  left ← bound edges.0
  lower ← bound edges.1
  right ← bound edges.2
  upper ← bound edges.3
  min_x ← limited left
  min_y ← limited lower
  max_x ← limited right
  max_y ← limited upper
  in_order (record { min_x = min_x; min_y = min_y; max_x = max_x; max_y = max_y })

-- none where the member is absent
abbrev pub box_if_any : Option Data → Outcome (Option Box9)
box_if_any None = Ok None
box_if_any (Some d) = box_of d >>= λ b. Ok (Some b)
