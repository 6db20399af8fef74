-- Each contract settles its outcome by the law for its kind: `result` of so many parameters, or with the number of those
-- before and after what is lent.
use mathlib.Core.Path.{◌≡◌, sym, ap, ap₂, ◌∙◌}
use native.Mathlib.Omega.{arith}
use lib.ListN.{length}
use Rattle.std.specs.Prelude.{Result, Ok, Err, MatchResult}
use Rattle.laws.proofs.Pinned.{result, lent, result_lent}
use Rattle.bytecode.proofs.Pinned.{decode_settled}
use Rattle.station.proofs.Pinned.{station_settled}
use Rattle.phrases.proofs.Wrote.{wrote_is}
use Rattle.promises.specs.Pinned.{PublishedPinned, SeenSettled}

pub published_pinned : PublishedPinned
published_pinned =
    record {
      reason_number = λ κs a. result 1;
      reason_at = λ t l κs a. result 2;
      clear = λ κs a. lent 0 0;
      left = λ κs a. result 2;
      number = λ t n fits κs a o p h k. result 2 o p h.is k.is;
      read_number = λ t n fits κs a. result 2;
      read_u1 = λ κs a. result 2;
      read_u2 = λ κs a. result 2;
      read_u4 = λ κs a. result 2;
      is_unqualified_name = λ κs a. result 1;
      is_unqualified_method_name = λ κs a. result 3;
      is_binary_name = λ κs a. result 1;
      is_module_name = λ κs a. result 1;
      name_end = λ κs a. result 2;
      class_name = λ κs a. result 1;
      is_class_name = λ κs a. result 1;
      base = λ κs a. result 2;
      void = λ κs a. result 0;
      object = λ κs a. result 3;
      is_base_type = λ κs a. result 1;
      field_at = λ κs a. result 2;
      return_at = λ κs a. result 2;
      all_used = λ t l c g d κs a. result 2;
      field_prefix = λ κs a. result 1;
      field_whole = λ κs a. result 1;
      return_prefix = λ κs a. result 1;
      return_whole = λ κs a. result 1;
      begins_with = λ κs a. result 3;
      array_whole = λ κs a. result 1;
      is_field_descriptor = λ κs a. result 1;
      is_return_descriptor = λ κs a. result 1;
      is_array_descriptor = λ κs a. result 1;
      method_prefix = λ κs a. result_lent 1 0;
      method_whole = λ κs a. result_lent 1 0;
      method_check = λ κs a. result 1;
      is_method_descriptor = λ κs a. result 1;
      put = λ κs a. lent 0 2;
      put_run = λ κs a. lent 0 3;
      is_field_part = λ κs a. result 2;
      is_return_part = λ κs a. result 2;
      part_length = λ κs a. result 1;
      put_part = λ κs a. lent 2 1;
      check_room = λ κs a. result 2;
      print_field = λ κs a. result_lent 2 0;
      print_return = λ κs a. result_lent 2 0;
      print_method = λ κs a. result_lent 4 0;
      method_identifier = λ κs a. result_lent 2 0;
      allows_tag = λ κs a. result 2;
      pool_entry_at = λ κs a. result 2;
      entry_of_kind = λ κs a. result 3;
      format_of = λ κs a. result 1;
      wide_form_of = λ κs a. result 1;
      kind_of = λ κs a. result 1;
      signed_read = λ t n fits κs a. result 1;
      index_read = λ κs a. result 4;
      zero_read = λ κs a. result 2;
      array_tag_read = λ κs a. result 2;
      with_first = λ κs a. result 2;
      increment = λ t n fits κs a. result 3;
      indexed_step = λ κs a. result 4;
      wide_step = λ κs a. result 2;
      entry_count = λ κs a. result 2;
      table_step = λ κs a. result 2;
      lookup_step = λ κs a. result 2;
      instruction_at = λ κs a. result 3;
      put_record = λ κs a. lent 0 2;
      record_at = λ κs a. result 2;
      offset_at = λ κs a. result 2;
      put_entry = λ κs a. lent 0 2;
      records_entry_at = λ κs a. result 2;
      index_of = λ κs a. result 2;
      is_offset = λ κs a. result 2;
      find = λ κs a. result 3;
      stored_entries = λ κs a. result 1;
      check_jumps = λ κs a. result 2;
      failure = λ κs a. result 1;
      entries_of = λ κs a. result 1;
      record_of = λ κs a. result 3;
      put_entries = λ κs a. lent 2 1;
      decode = decode_settled;
      nk_decode = station_settled.nk_decode;
      nk_lookup = station_settled.nk_lookup;
      nk_class_name = station_settled.nk_class_name;
      nk_print_field = station_settled.nk_print_field;
      nk_print_return = station_settled.nk_print_return;
      nk_print_method = station_settled.nk_print_method;
      nk_identifier = station_settled.nk_identifier;
      nk_field_prefix = station_settled.nk_field_prefix;
      nk_field_whole = station_settled.nk_field_whole;
      nk_return_prefix = station_settled.nk_return_prefix;
      nk_return_whole = station_settled.nk_return_whole;
      nk_array = station_settled.nk_array;
      nk_method_prefix = station_settled.nk_method_prefix;
      nk_method_whole = station_settled.nk_method_whole;
      nk_is_binary_name = station_settled.nk_is_binary_name;
      nk_is_unqualified_name = station_settled.nk_is_unqualified_name;
      nk_is_method_name = station_settled.nk_is_method_name;
      nk_is_module_name = station_settled.nk_is_module_name;
      nk_is_field_descriptor = station_settled.nk_is_field_descriptor;
      nk_is_array_descriptor = station_settled.nk_is_array_descriptor;
      nk_is_return_descriptor = station_settled.nk_is_return_descriptor;
      nk_is_method_descriptor = station_settled.nk_is_method_descriptor;
      answer_of_failure = λ κs a. result 1;
      answer_of_refusal = λ κs a. result 1;
      answer_of_output = λ κs a. result 1;
      parts_of_refusal = λ κs a. result 1;
      parts_of_field = λ κs a. result 1;
      byte = λ κs a o p h k. lent 0 1 o p (wrote_is h) (wrote_is k);
      text = λ κs a o p h k. lent 0 1 o p (wrote_is h) (wrote_is k);
      item = λ κs a o p h k. lent 0 2 o p (wrote_is h) (wrote_is k);
      blanks = λ κs a o p h k. lent 0 1 o p (wrote_is h) (wrote_is k);
      decimal = λ κs a o p h k. lent 0 1 o p (wrote_is h) (wrote_is k);
      signed = λ κs a o p h k. lent 0 1 o p (wrote_is h) (wrote_is k);
      decimal_right = λ κs a o p h k. lent 0 2 o p (wrote_is h) (wrote_is k);
      signed_right = λ κs a o p h k. lent 0 2 o p (wrote_is h) (wrote_is k);
      put_kind = λ κs a o p h k. lent 0 1 o p (wrote_is h) (wrote_is k);
      put_mnemonic = λ κs a o p h k. lent 0 1 o p (wrote_is h) (wrote_is k);
      put_counted = λ κs a o p h k. lent 0 3 o p (wrote_is h) (wrote_is k);
      put_target = λ κs a o p h k. lent 0 2 o p (wrote_is h) (wrote_is k);
      put_operands = λ κs a o p h k. lent 0 3 o p (wrote_is h) (wrote_is k);
      has_operands = λ κs a. result 1;
      instruction_line = λ κs a o p h k. result_lent 3 0 o p (h.0, h.1.0) (k.0, k.1.0);
      entry_line = λ κs a o p h k. result_lent 2 0 o p (h.0, h.1.0) (k.0, k.1.0);
      accepted_line = λ κs a o p h k. result_lent 2 0 o p (h.0, h.1.0) (k.0, k.1.0);
      refused_line = λ κs a o p h k. result_lent 3 0 o p (h.0, h.1.0) (k.0, k.1.0);
      sum_line = λ κs a o p h k. result_lent 3 0 o p (h.0, h.1.0) (k.0, k.1.0);
      shown = λ κs a. result_lent 1 0;
      next_method = λ κs a. result 2;
      cut_short = λ κs a. result 1;
    }

-- two answers that say the same of an `Ok`, and of an `Err`, where not both can be
agree :
    {T E V : Type 0} (seen : T → V) (P : T → Type 0) (Q : E → Type 0)
    → ((t u : T) → P t → P u → seen t ≡ seen u) → ((e f : E) → Q e → Q f → e ≡ f) → ((t : T) (e : E) → P t → Q e → ⊥)
    → (r s : Result T E) → MatchResult r P Q → MatchResult s P Q
    → ◌≡◌ {A = Result V E} (elim r [ Ok t ↦ Ok (seen t) | Err e ↦ Err e ]) (elim s [ Ok t ↦ Ok (seen t) | Err e ↦ Err e ])
agree seen P Q same one never (Ok t) (Ok u) h k = ap Ok (same t u h k)
agree seen P Q same one never (Ok t) (Err e) h k = absurd (never t e h k)
agree seen P Q same one never (Err e) (Ok t) h k = absurd (never t e k h)
agree seen P Q same one never (Err e) (Err f) h k = ap Err (one e f h k)

pub seen_settled : SeenSettled
seen_settled =
    record {
      text = λ κs a o p h k.
          agree (λ t. t.bytes.now) _ _ (λ t u x y. x ∙ sym y) (λ e f x y. x.0 ∙ sym y.0)
          (λ t e x y. let long = ap length x in absurd (omega (arith, t.within, long, y.1))) o.0 p.0 h k;
      sorted_records = λ κs a o p h k.
          agree (λ s. (s.records.now, s.count)) _ _ (λ t u x y. ap₂ (λ r c. (r, c)) (x.0 ∙ sym y.0) (x.1 ∙ sym y.1)) (λ e f x y. x.0 ∙ sym y.0)
          (λ t e x y. y.1 (rw (← x.0, ← x.1) t.sorted)) o.0 p.0 h k;
    }
