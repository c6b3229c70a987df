use Rattle.std.proofs.Common.{rules}
use Rattle.ppm_reading.proofs.Sound.{no_pixels, pixels_last, pixels_fit, pixels_short}
use Rattle.ppm_reading.proofs.pixels.pixels_at.Goals as goal

pub returns-in_err-pixels-clause-form : goal.returns-in_err-pixels-clause-form
returns-in_err-pixels-clause-form c = no_pixels c.args.width c.args.height c.args.text.now c.from_residual.result (search rules) (search rules)

pub overflow_sub-result : goal.overflow_sub-result
overflow_sub-result c = pixels_short c.args.width c.args.height c.args.text.now c.in_ok-pixels.pixels.now (search rules)

pub returns-clause-form : goal.returns-clause-form
returns-clause-form c = pixels_last c.args.width c.args.height c.args.text.now c.in_ok-pixels.pixels.now (search rules)

pub returns-clause-size : goal.returns-clause-size
returns-clause-size c = pixels_fit c.args.width c.args.height c.args.text.now c.in_ok-pixels.pixels.now (search rules)
