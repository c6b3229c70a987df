-- When a text is an object.
use Rattle.std.proofs.Common.{◌≡◌, ℕ, List, Some, None, Bool, true, false, cond, refl, sym, ap, is_some}
use Rattle.std.specs.Prelude.{option_and_then}
use Rattle.std.specs.Str.{IsUtf8, is_utf8}
use Rattle.std.proofs.lemmas.Str.{IsUtf8-from_is_utf8, is_utf8-from_IsUtf8}
use Rattle.serde_json.specs.Data.{Data, null, boolean, number, string, array, object}
use Rattle.serde_json.specs.Read.{read}
use Rattle.serde_json.specs.Find.{as_object}
use Rattle.json_forms.specs.Forms.{if_object, object_of}

object_is : (d : Data) → is_some (as_object d) ≡ true → if_object d ≡ Some d
object_is null e = absurd cc
object_is (boolean b) e = absurd cc
object_is (number n) e = absurd cc
object_is (string s) e = absurd cc
object_is (array ds) e = absurd cc
object_is (object ms) e = refl

no_object_is : (d : Data) → is_some (as_object d) ≡ false → if_object d ≡ None
no_object_is null e = refl
no_object_is (boolean b) e = refl
no_object_is (number n) e = refl
no_object_is (string s) e = refl
no_object_is (array ds) e = refl
no_object_is (object ms) e = absurd cc

pub reads_object : (text : List ℕ) (d : Data) → IsUtf8 text → read text ≡ Some d → is_some (as_object d) ≡ true → Some d ≡ object_of text
unfolding object_of
reads_object text d u e o = rw (is_utf8-from_IsUtf8 text u, e) (sym (object_is d o))

pub reads_no_object : (text : List ℕ) (d : Data) → IsUtf8 text → read text ≡ Some d → is_some (as_object d) ≡ false → None ≡ object_of text
unfolding object_of
reads_no_object text d u e o = rw (is_utf8-from_IsUtf8 text u, e) (sym (no_object_is d o))

no_json_by : (b : Bool) (text : List ℕ) → is_utf8 text ≡ b → (IsUtf8 text → read text ≡ None) → None ≡ cond b (option_and_then if_object (read text)) None
no_json_by false text e h = refl
no_json_by true text e h = sym (ap (option_and_then if_object) (h (IsUtf8-from_is_utf8 text e)))

pub reads_no_json : (text : List ℕ) → (IsUtf8 text → read text ≡ None) → None ≡ object_of text
unfolding object_of
reads_no_json text h = no_json_by (is_utf8 text) text refl h
