-- What a form is, an object, and the objects that are left, as values of the definitions.
use Rattle.std.specs.Prelude.{◌≡◌, ⊤, ◌∷◌, ℕ, [], List, Option, Some, None, Result, Ok, Err, false, length, suc, true}
use denote.Ref.{Bor}
use Rattle.std.specs.declared.alloc.AllocError.{AllocError}
use Rattle.std.specs.Option.{option_map}
use Rattle.std.specs.Result.{result_ok}
use Rattle.der_digits.specs.Lines.{lines_left}
use Rattle.der_forms.specs.Forms.{InputKind, objects, unknown_text, plain_octets, spelled}
use Rattle.der_forms.specs.Objects.{Object, object_in, objects_in}
use Rattle.der_forms.specs.declared.input.InputForm.{InputForm}
use Rattle.der_forms.specs.declared.input.InputForm.TheVariants.{Pem, Spelled, LaidOut, Unread, Der}
use Rattle.der_forms.specs.declared.objects.Objects.{Objects}
use Rattle.der_forms.specs.declared.objects.PemObject.{PemObject}

abbrev pub shown : InputForm → InputKind
shown Pem = objects
shown (Spelled octets) = spelled octets.items
shown (LaidOut octets) = unknown_text
shown (Unread fault) = unknown_text
shown Der = plain_octets

abbrev pub shown_object : PemObject → Object
shown_object object = record {
  label = object.label.now;
  octets = option_map (λ v. v.items) (result_ok object.octets);
  bad_end = option_map (λ end. end.1) object.bad_end;
}

-- the objects in the lines behind the one that ended an object, in which another with this label may begin
abbrev pub objects_behind : Option (Bor (List ℕ)) → List (List ℕ) → List Object
objects_behind None lines = objects_in false lines
objects_behind (Some label) lines = object_in label.now lines ∷ objects_in true lines

-- the objects that are still to come
abbrev pub objects_left : Objects → List Object
objects_left left = objects_behind left.joined (lines_left left.lines)

-- how many objects may begin in the lines, and in the one before them
abbrev pub at_most_behind : Option (Bor (List ℕ)) → List (List ℕ) → ℕ
at_most_behind None lines = length lines
at_most_behind (Some label) lines = suc (length lines)

abbrev pub at_most_left : Objects → ℕ
at_most_left left = at_most_behind left.joined (lines_left left.lines)

-- the first of the objects that are left is given, or none is left, unless memory ran out
abbrev pub Gives : Objects → Option (Result PemObject AllocError) → Objects → Type 0
Gives before None after = objects_left before ≡ []
Gives before (Some (Ok object)) after = objects_left before ≡ shown_object object ∷ objects_left after
Gives before (Some (Err e)) after = ⊤
