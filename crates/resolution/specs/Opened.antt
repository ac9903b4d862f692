-- Definitions are shut until a proof opens them. A case of given bytes is proved by computing, which needs all that a formatting rests on: the names
-- below, by crate. `opened` opens them all.
use Rattle.decimals.specs.Bytes as NumbersBytes
use Rattle.decimals.specs.Decimal as NumbersDecimal
use Rattle.literals.specs.Literal as NumbersLiteral
use Rattle.decimals.specs.Text as NumbersText
use Rattle.numbers.specs.Equal as NumbersEqual
use Rattle.numbers.specs.Value as NumbersValue
use Rattle.plural.specs.Plural as NumbersPlural
use Rattle.records.specs.Got as RecordsGot
use Rattle.records.specs.Bytes as RecordsBytes
use Rattle.rules.specs.Rules as RecordsRules
use Rattle.records.specs.Optional as RecordsOptional
use Rattle.records.specs.Names as RecordsNames
use Rattle.records.specs.Decode as RecordsDecode
use Rattle.records.specs.Images as RecordsImages
use Rattle.records.specs.Encode as RecordsEncode
use Rattle.records.specs.Errors as RecordsErrors
use Rattle.order.specs.Order as OrderOrder
use Rattle.order.specs.Accepted as OrderAccepted
use Rattle.scalars.specs.Scalars as ScalarsScalars
use Rattle.unescape.specs.Unescape as UnescapeUnescape
use Rattle.entries.specs.Lookup as BundleLookup
use Rattle.growth.specs.Items as GrowthItems
use Rattle.resolution.specs.Effect as ResolverEffect
use Rattle.resolution.specs.Resolve as ResolverResolve
use Rattle.resolution.specs.Exec as ResolverExec
use Rattle.resolution.specs.Format as ResolverFormat

unfoldable pub numbers_bytes : Unit {0}
unfolding NumbersBytes.same_bytes NumbersBytes.run NumbersBytes.digit
numbers_bytes = tt

unfoldable pub numbers_decimal : Unit {0}
unfolding NumbersDecimal.default_options NumbersDecimal.shortest NumbersDecimal.or_zero
numbers_decimal = tt

unfoldable pub numbers_literal : Unit {0}
unfolding NumbersLiteral.number_step NumbersLiteral.digit_count NumbersLiteral.is_number NumbersLiteral.one_more NumbersLiteral.read_sign NumbersLiteral.read_dot NumbersLiteral.read_digit NumbersLiteral.read_step NumbersLiteral.read_from NumbersLiteral.read_start NumbersLiteral.with_fraction NumbersLiteral.read_number NumbersLiteral.literal
numbers_literal = tt

unfoldable pub numbers_text : Unit {0}
unfolding NumbersText.digits_of NumbersText.width NumbersText.decimal NumbersText.sign_text NumbersText.fraction_digits NumbersText.with_dot NumbersText.fraction_text NumbersText.decimal_text NumbersText.number_text
numbers_text = tt

unfoldable pub numbers_equal : Unit {0}
unfolding NumbersEqual.same_flag NumbersEqual.same_count NumbersEqual.same_text NumbersEqual.same_words NumbersEqual.same_counts NumbersEqual.same_options NumbersEqual.same_value NumbersEqual.same_number
numbers_equal = tt

unfoldable pub numbers_value : Unit {0}
unfolding NumbersValue.with_kind NumbersValue.with_style NumbersValue.with_currency NumbersValue.with_currency_display NumbersValue.with_use_grouping NumbersValue.with_minimum_integer_digits NumbersValue.with_minimum_fraction_digits NumbersValue.with_maximum_fraction_digits NumbersValue.with_minimum_significant_digits NumbersValue.with_maximum_significant_digits NumbersValue.kind_of NumbersValue.style_of NumbersValue.display_of NumbersValue.to_count NumbersValue.merge_text NumbersValue.merge_count NumbersValue.merge_one NumbersValue.merge NumbersValue.with_options NumbersValue.number_function NumbersValue.value_text
numbers_value = tt

unfoldable pub numbers_plural : Unit {0}
unfolding NumbersPlural.operands_of NumbersPlural.operands NumbersPlural.en_cardinal NumbersPlural.da_cardinal NumbersPlural.ru_whole NumbersPlural.ru_cardinal NumbersPlural.cy_whole NumbersPlural.cy_cardinal NumbersPlural.en_place NumbersPlural.en_ordinal NumbersPlural.cy_place NumbersPlural.cy_ordinal NumbersPlural.rule_of NumbersPlural.category NumbersPlural.keyword
numbers_plural = tt

unfoldable pub records_got : Unit {0}
unfolding RecordsGot.after RecordsGot.test RecordsGot.pick
records_got = tt

unfoldable pub records_bytes : Unit {0}
unfolding RecordsBytes.bytes_at RecordsBytes.byte_at RecordsBytes.number_at RecordsBytes.span_at RecordsBytes.to_be
records_bytes = tt

unfoldable pub records_rules : Unit {0}
unfolding RecordsRules.letter RecordsRules.id_step RecordsRules.is_id RecordsRules.utf8_first RecordsRules.utf8_low RecordsRules.utf8_high RecordsRules.utf8_rest RecordsRules.utf8_step RecordsRules.is_utf8 RecordsRules.is_text RecordsRules.hex RecordsRules.escape_step RecordsRules.is_string
records_rules = tt

unfoldable pub records_names : Unit {0}
unfolding RecordsOptional.option_of RecordsOptional.or_else RecordsNames.among RecordsNames.distinct RecordsNames.first_named
records_names = tt

unfoldable pub records_decode : Unit {0}
unfolding RecordsDecode.many RecordsDecode.ruled_at RecordsDecode.flag_at RecordsDecode.optional_at RecordsDecode.id_at RecordsDecode.text_read_at RecordsDecode.string_at RecordsDecode.literal_number_at RecordsDecode.literal_at RecordsDecode.key_at RecordsDecode.named_at RecordsDecode.named_arguments_at RecordsDecode.element_at RecordsDecode.elements_at RecordsDecode.pattern_at RecordsDecode.variant_at RecordsDecode.inlines_at RecordsDecode.arguments_at RecordsDecode.term_arguments_at RecordsDecode.term_reference_at RecordsDecode.select_at RecordsDecode.inline_body RecordsDecode.inline_at RecordsDecode.expr_at RecordsDecode.expression RecordsDecode.max_depth RecordsDecode.entry_pattern_at
records_decode = tt

unfoldable pub records_images : Unit {0}
unfolding RecordsImages.max_image RecordsImages.max_store RecordsImages.max_items RecordsImages.max_locale RecordsImages.one_at RecordsImages.kind_at RecordsImages.attribute_at RecordsImages.attributes_at RecordsImages.is_some RecordsImages.is_more RecordsImages.complete RecordsImages.entry_at RecordsImages.resource_at RecordsImages.function_at RecordsImages.item_at RecordsImages.locale_at RecordsImages.store_of RecordsImages.whole_of RecordsImages.resource_of RecordsImages.argument_number_at RecordsImages.argument_value_at RecordsImages.argument_at RecordsImages.arguments_at RecordsImages.arguments_of
records_images = tt

unfoldable pub records_encode : Unit {0}
unfolding RecordsEncode.enc_str RecordsEncode.enc_flag RecordsEncode.enc_optional RecordsEncode.enc_all RecordsEncode.enc_counted RecordsEncode.enc_literal RecordsEncode.enc_key RecordsEncode.enc_named RecordsEncode.count_elements RecordsEncode.count_inlines RecordsEncode.count_variants RecordsEncode.enc_sized RecordsEncode.enc_pattern RecordsEncode.enc_kind RecordsEncode.enc_attribute RecordsEncode.enc_entry RecordsEncode.enc_whole RecordsEncode.enc_resource RecordsEncode.enc_function RecordsEncode.enc_item RecordsEncode.enc_store RecordsEncode.enc_argument RecordsEncode.enc_named_argument RecordsEncode.enc_arguments_image
records_encode = tt

unfoldable pub records_errors : Unit {0}
unfolding RecordsErrors.enc_referred RecordsErrors.enc_record RecordsErrors.enc_error RecordsErrors.enc_errors RecordsErrors.list_header
records_errors = tt

unfoldable pub order_accepted : Unit {0}
unfolding OrderOrder.before OrderAccepted.leads OrderAccepted.ascending OrderAccepted.is_least OrderAccepted.all_least OrderAccepted.in_order OrderAccepted.judged_if OrderAccepted.judge_read OrderAccepted.judge
order_accepted = tt

unfoldable pub unescape_unescape : Unit {0}
unfolding UnescapeUnescape.has_backslash ScalarsScalars.hex_value UnescapeUnescape.digits_of UnescapeUnescape.scalar_piece UnescapeUnescape.scalar_of UnescapeUnescape.escape_of UnescapeUnescape.piece_of UnescapeUnescape.more_of ScalarsScalars.is_scalar ScalarsScalars.scalar_or ScalarsScalars.enc_scalar UnescapeUnescape.reads_as UnescapeUnescape.unescape_from UnescapeUnescape.unescape
unescape_unescape = tt

unfoldable pub bundle_lookup : Unit {0}
unfolding BundleLookup.first_entry BundleLookup.last_entry BundleLookup.holder_after BundleLookup.find_from BundleLookup.find_in BundleLookup.part_of
bundle_lookup = tt

unfoldable pub growth_items : Unit {0}
unfolding GrowthItems.at_front
growth_items = tt

unfoldable pub resolver_effect : Unit {0}
unfolding ResolverEffect.ret ResolverEffect.◌>>=◌ ResolverEffect.◌>>◌ ResolverEffect.emit ResolverEffect.write ResolverEffect.is_dirty ResolverEffect.get_locals ResolverEffect.set_locals ResolverEffect.max_placeables ResolverEffect.enter_if ResolverEffect.enter ResolverEffect.only_if ResolverEffect.entered ResolverEffect.capture ResolverEffect.release
resolver_effect = tt

unfoldable pub resolver_resolve : Unit {0}
unfolding ResolverResolve.on_trail ResolverResolve.bytes_of ResolverResolve.dotted ResolverResolve.error_text ResolverResolve.error_of ResolverResolve.braced ResolverResolve.bare_inline ResolverResolve.bare ResolverResolve.fsi ResolverResolve.pdi ResolverResolve.mark ResolverResolve.cut_short ResolverResolve.held ResolverResolve.string_if ResolverResolve.string_value ResolverResolve.literal_value ResolverResolve.named_values ResolverResolve.write_ref_error ResolverResolve.matches ResolverResolve.next ResolverResolve.this_or ResolverResolve.first_by ResolverResolve.has_key ResolverResolve.is_default ResolverResolve.chosen ResolverResolve.look_for ResolverResolve.look_up ResolverResolve.message_only ResolverResolve.term_only ResolverResolve.as_message ResolverResolve.as_term ResolverResolve.track_if ResolverResolve.track ResolverResolve.on_part ResolverResolve.missing_piece ResolverResolve.message_found ResolverResolve.term_found ResolverResolve.write_message ResolverResolve.write_term ResolverResolve.pushed ResolverResolve.note_if ResolverResolve.note_one ResolverResolve.note_merges ResolverResolve.merges_of ResolverResolve.call ResolverResolve.call_function ResolverResolve.write_result ResolverResolve.or_wrong ResolverResolve.found_or ResolverResolve.variable_in ResolverResolve.get_variable ResolverResolve.write_variable ResolverResolve.several_of ResolverResolve.write_pattern ResolverResolve.resolve
resolver_resolve = tt

unfoldable pub resolver_exec : Unit {0}
unfolding ResolverExec.allow_if ResolverExec.allow ResolverExec.list_limit ResolverExec.put_text ResolverExec.put_work ResolverExec.put_at ResolverExec.listed ResolverExec.step ResolverExec.and_then ResolverExec.exec ResolverExec.start
resolver_exec = tt

unfoldable pub resolver_format : Unit {0}
unfolding ResolverFormat.value_of ResolverFormat.values_of ResolverFormat.max_patterns ResolverFormat.fresh ResolverFormat.run_pattern ResolverFormat.limits_of ResolverFormat.zeros ResolverFormat.refuse ResolverFormat.or_refuse ResolverFormat.ended ResolverFormat.is_id_or_none ResolverFormat.format_with ResolverFormat.format_arguments ResolverFormat.format_part ResolverFormat.format_entry ResolverFormat.format_store ResolverFormat.format
resolver_format = tt

unfoldable pub opened : Unit {0}
unfolding numbers_bytes numbers_decimal numbers_literal numbers_text numbers_equal numbers_value numbers_plural records_got records_bytes records_rules records_names records_decode records_images records_encode records_errors order_accepted unescape_unescape bundle_lookup growth_items resolver_effect resolver_resolve resolver_exec resolver_format
opened = tt
