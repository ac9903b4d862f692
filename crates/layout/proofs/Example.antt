-- Document 01's example image is what the encoder writes, and decodes.
use mathlib.Core.Path.{◌≡◌, refl}
use mathlib.Core.List.{[], ◌∷◌}
use Rattle.records.specs.Got.{got, after, test, pick}
use Rattle.records.specs.Bytes.{to_be, bytes_at, byte_at, number_at, span_at}
use Rattle.decimals.specs.Bytes.{run, digit}
use Rattle.rules.specs.Rules.{letter, id_step, is_id, utf8_first, utf8_low, utf8_high, utf8_rest, utf8_step, is_utf8, is_text}
use Rattle.records.specs.Decode.{many, ruled_at, optional_at, id_at, text_read_at, element_at, elements_at, pattern_at, entry_pattern_at}
use Rattle.records.specs.Images.{max_image, is_some, is_more, complete, one_at, kind_at, attribute_at, attributes_at, entry_at, resource_at, whole_of, resource_of}
use Rattle.records.specs.Encode.{enc_str, enc_optional, enc_all, enc_counted, count_elements, enc_sized, enc_pattern, enc_kind, enc_attribute, enc_entry, enc_whole, enc_resource}
use Rattle.layout.specs.Example.{image, hello, value, message}

pub encoded : enc_resource (message ∷ []) ≡ image
unfolding enc_resource enc_whole enc_counted enc_all enc_entry enc_kind enc_str enc_optional enc_pattern enc_sized count_elements enc_attribute to_be image message hello
encoded = refl

pub decoded : resource_of image ≡ got (message ∷ []) 28
unfolding resource_of whole_of resource_at entry_at attributes_at attribute_at kind_at one_at complete is_some is_more max_image many ruled_at optional_at id_at text_read_at element_at elements_at pattern_at entry_pattern_at number_at bytes_at byte_at span_at run letter digit id_step is_id utf8_first utf8_low utf8_high utf8_rest utf8_step is_utf8 is_text after test pick image message value hello
decoded = refl
