-- Lists and objects, constant or not, are of the form that `NestLaws` speaks of.
use mathlib.Core.Path.{refl}
use mathlib.Core.Bool.{Bool, true, false}
use mathlib.Core.List.Memᴰ
use Rattle.paper.specs.Numbers.{kind_list, kind_object}
use Rattle.paper.specs.Language.{Part, language, bracket_l, bracket_r, brace_l, brace_r, ListValue, Value*, ObjectValue, ObjectField, ObjectField*, ConstListValue, ConstValue*, ConstObjectValue, ConstObjectField, ConstObjectField*}
use Rattle.paper.proofs.Machine.{choose}
use Rattle.paper.proofs.Tables.{factored}
use Rattle.text_cursor.proofs.Steps.{refuses, refuses_end}
use Rattle.text_leaves.specs.Stacks.{value_part}
use Rattle.text_values.proofs.NestLaws.{Nest}

abbrev pub list_part : Bool → Part
list_part true = ConstListValue
list_part false = ListValue

abbrev pub values_part : Bool → Part
values_part true = ConstValue*
values_part false = Value*

abbrev pub object_part : Bool → Part
object_part true = ConstObjectValue
object_part false = ObjectValue

abbrev pub field_part : Bool → Part
field_part true = ConstObjectField
field_part false = ObjectField

abbrev pub fields_part : Bool → Part
fields_part true = ConstObjectField*
fields_part false = ObjectField*

pub list_nest : (b : Bool) → Nest (value_part b) kind_list bracket_l bracket_r (list_part b) (value_part b) (values_part b)
unfolding factored language choose refuses refuses_end
list_nest true =
    record {
      outer_in = Memᴰ.tail (Memᴰ.tail (Memᴰ.tail (Memᴰ.tail (Memᴰ.tail (Memᴰ.tail (Memᴰ.tail (Memᴰ.head refl)))))));
      inner_in = Memᴰ.head refl;
      more_in = Memᴰ.tail (Memᴰ.head refl);
      none_in = Memᴰ.head refl;
      uncounted = λ q. refl;
      outer_first = tt;
      opening_hit = tt;
      opening_opens = tt;
      closing_hit = tt;
      closing_closes = tt;
      closing_none = tt;
      none_end = refl;
      no_item_end = tt;
      item_first = tt;
    }
list_nest false =
    record {
      outer_in = Memᴰ.tail (Memᴰ.tail (Memᴰ.tail (Memᴰ.tail (Memᴰ.tail (Memᴰ.tail (Memᴰ.tail (Memᴰ.tail (Memᴰ.head refl))))))));
      inner_in = Memᴰ.head refl;
      more_in = Memᴰ.tail (Memᴰ.head refl);
      none_in = Memᴰ.head refl;
      uncounted = λ q. refl;
      outer_first = tt;
      opening_hit = tt;
      opening_opens = tt;
      closing_hit = tt;
      closing_closes = tt;
      closing_none = tt;
      none_end = refl;
      no_item_end = tt;
      item_first = tt;
    }

pub object_nest : (b : Bool) → Nest (value_part b) kind_object brace_l brace_r (object_part b) (field_part b) (fields_part b)
unfolding factored language choose refuses refuses_end
object_nest true =
    record {
      outer_in = Memᴰ.tail (Memᴰ.tail (Memᴰ.tail (Memᴰ.tail (Memᴰ.tail (Memᴰ.tail (Memᴰ.tail (Memᴰ.tail (Memᴰ.head refl))))))));
      inner_in = Memᴰ.head refl;
      more_in = Memᴰ.tail (Memᴰ.head refl);
      none_in = Memᴰ.head refl;
      uncounted = λ q. refl;
      outer_first = tt;
      opening_hit = tt;
      opening_opens = tt;
      closing_hit = tt;
      closing_closes = tt;
      closing_none = tt;
      none_end = refl;
      no_item_end = tt;
      item_first = tt;
    }
object_nest false =
    record {
      outer_in = Memᴰ.tail (Memᴰ.tail (Memᴰ.tail (Memᴰ.tail (Memᴰ.tail (Memᴰ.tail (Memᴰ.tail (Memᴰ.tail (Memᴰ.tail (Memᴰ.head refl)))))))));
      inner_in = Memᴰ.head refl;
      more_in = Memᴰ.tail (Memᴰ.head refl);
      none_in = Memᴰ.head refl;
      uncounted = λ q. refl;
      outer_first = tt;
      opening_hit = tt;
      opening_opens = tt;
      closing_hit = tt;
      closing_closes = tt;
      closing_none = tt;
      none_end = refl;
      no_item_end = tt;
      item_first = tt;
    }
